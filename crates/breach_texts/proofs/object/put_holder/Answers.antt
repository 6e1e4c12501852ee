use Rattle.std.proofs.Common.{◌++◌, ap, sym, ◌∙◌}
use Rattle.std.proofs.lemmas.Result.{on_ok_weaker}
use Rattle.std.specs.Prelude.{[], codes}
use Rattle.objects.specs.ItemLaws.{inside_two}
use Rattle.objects.specs.Items.{object_field}
use Rattle.reached.specs.Order.{seen_member}
use Rattle.reach_texts.specs.Object.{member_fields}
use Rattle.reach_texts.proofs.Seen.{seen_here}
use Rattle.breach_texts.specs.Object.{fields_in, held_field}
use Rattle.breach_texts.proofs.object.put_holder.Goals as goal

pub returns-clause-tokens : goal.returns-clause-tokens
unfolding held_field
returns-clause-tokens g c =
    let value = g.C.CapRep.value in
    let symbols = c.args.symbols.now in
    let old = c.args.object.now.tokens in
    let member = c.index-members-number.result in
    on_ok_weaker c.put-2.result
    (λ ends. inside_two (codes "held") old _ _ _ [] (member_fields symbols c.args.number (seen_member value member))
    c.in_ok-put.ensures.tokens c.in_ok-put_member.ensures.tokens ends
    ∙ ap (λ found. old ++ object_field (codes "held") (fields_in symbols c.args.number found))
    (sym (seen_here value c.args.members.now c.args.number member c.requires c.index-members-number.is)))
    c.put-2.ensures.tokens
