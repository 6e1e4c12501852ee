use Rattle.std.proofs.lemmas.Result.{on_ok_weaker}
use Rattle.std.specs.Prelude.{codes}
use Rattle.objects.specs.Items.{address_field}
use Rattle.objects.specs.ItemLaws.{inside_three}
use Rattle.objects.specs.Places.{label_fields, place_field, source_field}
use Rattle.objects.proofs.place.put_place.Goals as goal

pub returns-clause-tokens : goal.returns-clause-tokens
unfolding place_field
returns-clause-tokens c =
    let symbols = c.args.symbols.now in
    let address = c.args.address in
    on_ok_weaker c.put-2.result
    (inside_three c.args.name.now c.args.object.now.tokens _ _ _ _ (address_field (codes "address") address)
    (label_fields symbols address) (source_field symbols address) c.in_ok-put.ensures.tokens c.in_ok-put_label.ensures.tokens
    c.in_ok-put_source.ensures.tokens)
    c.put-2.ensures.tokens
