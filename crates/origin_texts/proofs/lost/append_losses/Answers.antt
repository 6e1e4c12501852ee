use Rattle.std.proofs.Common.{[], subst}
use Rattle.std.specs.Prelude.{string_bytes}
use Rattle.origin_texts.specs.Held.{AreMet}
use Rattle.origin_texts.proofs.Stretching.{on_ok}
use Rattle.origin_texts.proofs.Telling.{all_put}
use Rattle.origin_texts.proofs.lost.append_losses.Goals as goal

pub returns : goal.returns
returns c =
    let old = string_bytes c.args.text.now in
    let new = string_bytes c.put_told.new.text in
    on_ok c.put.result _ _ c.put.ensures
    (λ puts. all_put old new _ c.put_told.new.stretch _
    (subst (AreMet old new c.put_told.new.stretch []) c.in_ok-told.ensures (c.in_ok-put_told.ensures [] c.new-stretch.ensures)) puts)
