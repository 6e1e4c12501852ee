-- What every policy that is read is like.
use Rattle.std.specs.Prelude.{◌<◌, ◌≤◌, List, length, IfSome}
use Rattle.std.specs.List.{AllByRecursion}
use Rattle.reach.specs.declared.range.Range.{Range}
use Rattle.policy.specs.Terms.{Terms}

-- none is empty
abbrev pub AreFilled : List Range → Type 0
AreFilled ranges = AllByRecursion (λ r. r.from < r.to) ranges

-- A rule is about the code of some range, none of its ranges is empty, and its object types are in their limits.
pub record IsSound (rule : Terms) : Type 0 where
  pub some_code : 0 < length rule.code
  pub code : AreFilled rule.code
  pub store : AreFilled rule.store
  pub load : AreFilled rule.load
  pub execute : AreFilled rule.execute
  pub keep : AreFilled rule.keep
  pub enter : AreFilled rule.enter
  pub types : IfSome rule.types (AllByRecursion (λ t. t ≤ 0x3FFFB))
