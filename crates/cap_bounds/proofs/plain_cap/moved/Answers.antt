use Rattle.std.proofs.Common.{sym, ◌∙◌}
use Rattle.std.proofs.lemmas.Bool.{ne_eqb}
use Rattle.cap_bounds.specs.SetAddressLaws.{at_address-moved, at_address-sealed, at_address-outside}
use Rattle.cap_bounds.specs.PlainCap.{record_of}
use Rattle.cap_bounds.proofs.plain_cap.moved.Goals as goal
use Rattle.cap_bounds.proofs.plain_cap.moved.Goals.{else-c-eq-UNSEALED-via-then-c-eq-UNSEALED+else-window_holds}
use Rattle.cap_bounds.proofs.plain_cap.moved.Goals.{else-c-eq-UNSEALED-via-else-c-eq-UNSEALED}

pub returns-then-window_holds : goal.returns-then-window_holds
returns-then-window_holds c =
    sym (at_address-moved (record_of c.args.c) c.args.address c.if-c-eq-UNSEALED.true (sym c.window_holds.ensures ∙ c.if-window_holds.true))

pub returns-else-c-eq-UNSEALED : goal.returns-else-c-eq-UNSEALED
returns-else-c-eq-UNSEALED c =
    elim c.else-c-eq-UNSEALED.branch [
      | else-c-eq-UNSEALED-via-then-c-eq-UNSEALED+else-window_holds w ↦
          c.data_at.ensures
          ∙ sym (at_address-outside (record_of c.args.c) c.args.address (sym w.window_holds.ensures ∙ w.if-window_holds.false))
      | else-c-eq-UNSEALED-via-else-c-eq-UNSEALED w ↦
          c.data_at.ensures ∙ sym (at_address-sealed (record_of c.args.c) c.args.address (ne_eqb _ _ w.if-c-eq-UNSEALED.false))
    ]
