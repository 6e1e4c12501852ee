use Rattle.std.proofs.Common.{subst}
use Rattle.std.specs.Prelude.{Some, option_copied, string_bytes}
use Rattle.origin_texts.specs.Held.{AreMet}
use Rattle.origin_texts.specs.Log.{chain_from}
use Rattle.origin_texts.specs.Origin.{history}
use Rattle.origin_texts.proofs.Telling.{window_put}
use Rattle.origin_texts.proofs.origin.put_window.Goals as goal

pub returns-clause-text : goal.returns-clause-text
returns-clause-text g c = λ whole put.
    let past = c.args.past.now in
    let replay = option_copied c.args.replay in
    let h = history past replay in
    let old = string_bytes c.args.text.now in
    let new = string_bytes c.put_told.new.text in
    window_put c.args.symbols.now past replay old new c.args.stretch.now c.put_told.new.stretch c.in_ok-links.field-0.links.items
    (chain_from h (Some c.args.place) c.args.to) (chain_from h c.in_ok-links.field-0.next c.args.from) whole c.in_ok-links.ensures.chain put
    (λ first is. subst (AreMet old new c.put_told.new.stretch first) c.in_ok-told.ensures (c.in_ok-put_told.ensures first is))
