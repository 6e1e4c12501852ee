-- Whether some value passes, by the first one that does.
use Rattle.std.proofs.Common.{◌≡◌, ℕ, List, get_or, sym}
use Rattle.std.proofs.lemmas.Bool.{false_from_ne_true}
use Rattle.std.proofs.lemmas.List.Elements.{Contains-get_or}
use Rattle.std.proofs.lemmas.List.Folds.{list_any_at, list_any_none}
use Rattle.std.specs.List.{list_any}
use Rattle.std.specs.Prelude.{◌↔◌, Bool, true, Option, Some, None, IfSome, IfNone, is_some}
use Rattle.cap_bounds.specs.CapValue.{CapValue, Data}
use Rattle.reach.specs.First.{IsFirst, HoldsOfNone}

pub any_first : (P : CapValue → Type 0) (test : CapValue → Bool) → ((v : CapValue) → (test v ≡ true) ↔ P v) → (vs : List CapValue)
    (o : Option ℕ) → IfSome o (IsFirst P vs) → IfNone o (HoldsOfNone P vs) → is_some o ≡ list_any test vs
any_first P test means vs (Some k) first none =
    sym (list_any_at test vs k (Data 0) first.inside ((means (get_or vs k (Data 0))).1 (first.here (Data 0))))
any_first P test means vs None first none =
    sym (list_any_none test vs (λ k d below. false_from_ne_true (test (get_or vs k d))
    (λ passes. none (get_or vs k d) (Contains-get_or vs k d below) ((means (get_or vs k d)).0 passes))))
