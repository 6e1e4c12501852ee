use Rattle.std.proofs.Common.{sym, subst, ◌∙◌}
use Rattle.cap_rights.specs.Rights.{OpensType}
use Rattle.authority.specs.Authority.{held, sentry, sealed_by}
use Rattle.reach.proofs.laws.members_bound_what_comes.Goals as goal

pub returns-clause-rights : goal.returns-clause-rights
returns-clause-rights c = λ events s vs are run v reachable.
    let covered = c.plain_runs_keep_authority.ensures.rights events s run v reachable in
    record {
      source = covered.source;
      is_one = are.complete covered.source covered.reachable;
      within = covered.within;
    }

pub returns-clause-seals : goal.returns-clause-seals
returns-clause-seals c = λ events s vs otype are run none_sealed none_seals other v reachable sealed.
    elim (c.plain_runs_keep_authority.ensures.seals events s run v reachable sealed.sealed) [
      | held before ↦ none_sealed v (are.complete v before) sealed
      | sentry same ↦ other (sym sealed.is_type ∙ same)
      | sealed_by k before opens ↦ none_seals k (are.complete k before) (subst (OpensType k) sealed.is_type opens)
    ]
