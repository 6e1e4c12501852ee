use Rattle.std.proofs.Common.{◌≡◌, ◌++◌, ap, sym, subst, ◌∙◌}
use Rattle.std.proofs.lemmas.Result.{IfOk-weaker}
use Rattle.std.specs.Prelude.{string_bytes}
use Rattle.objects.specs.ItemLaws.{said_two}
use Rattle.objects.specs.Items.{line_of}
use Rattle.reach.specs.Reach.{members_in}
use Rattle.reached.specs.Chain.{AreInOrder}
use Rattle.reached.specs.Order.{seen_members}
use Rattle.explain.specs.StandingText.{standing_fields}
use Rattle.breach_texts.specs.Object.{breach_fields, refused_object, stopped}
use Rattle.breach_texts.proofs.stopped.refused_object.Goals as goal

pub put_breach_fields-requires-clause-order : goal.put_breach_fields-requires-clause-order
put_breach_fields-requires-clause-order g c = subst AreInOrder (sym c.members.ensures) c.in_ok-reach.ensures.order

pub returns : goal.returns
returns g c =
    let value = g.C.CapRep.value in
    let symbols = c.args.symbols.now in
    let number = c.args.rule.number in
    let rule = c.args.rule.text.now in
    let refused = c.args.refused in
    let s = c.args.machine.now in
    let stands = standing_fields symbols (stopped c.args.steps) s in
    let breach = breach_fields symbols (members_in s) number rule refused.ban refused.member in
    let members : seen_members value c.members.result.now ≡ members_in s =
    ap (seen_members value) c.members.ensures ∙ c.in_ok-reach.ensures.members ∙ ap members_in c.hart.ensures.value in
    IfOk-weaker c.finish.result _ (λ line. string_bytes line ≡ refused_object symbols number rule refused c.args.steps s)
    (λ line e. e
    ∙ ap line_of (said_two _ c.put_standing_fields.new.object.tokens _ stands breach (c.in_ok-put_standing_fields.ensures.tokens
    ∙ ap (λ u. c.in_ok-object.object.tokens ++ standing_fields symbols (stopped c.args.steps) u) c.hart-2.ensures.value)
    (c.in_ok-put_breach_fields.ensures.tokens
    ∙ ap (λ ms. c.put_standing_fields.new.object.tokens ++ breach_fields symbols ms number rule refused.ban refused.member) members)
    ∙ ap (λ before. before ++ (stands ++ breach)) c.in_ok-object.ensures.tokens))
    c.finish.ensures
