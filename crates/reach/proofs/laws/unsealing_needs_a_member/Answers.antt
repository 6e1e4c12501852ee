use Rattle.std.proofs.Common.{inl, inr}
use Rattle.std.proofs.lemmas.Bool.{cases_Bool}
use Rattle.cap_bounds.specs.CapValue.{is_tagged, value_otype}
use Rattle.cap_rights.specs.Derivations.{unseal}
use Rattle.reach.proofs.Unsealing.{unseal-opens, OpensUnsealing-outer}
use Rattle.reach.proofs.laws.unsealing_needs_a_member.Goals as goal

pub returns : goal.returns
returns c = λ events s vs sealed authority are run none reachable.
    let covered = c.plain_runs_keep_authority.ensures.rights events s run authority reachable in
    elim (cases_Bool (is_tagged (unseal sealed authority))) [
      | inl tagged ↦ absurd (none covered.source (are.complete covered.source covered.reachable)
          (OpensUnsealing-outer authority covered.source (value_otype sealed) covered.within (unseal-opens sealed authority tagged)))
      | inr untagged ↦ untagged
    ]
