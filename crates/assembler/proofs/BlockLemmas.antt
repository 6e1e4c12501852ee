-- A section, put among sections in ascending order.
use Rattle.std.proofs.Common.{◌≡◌, ℕ, ◌+◌, nat_lt, cond, true, false, not, List, [], ◌∷◌, refl, ap, ◌∙◌, arith}
use Rattle.std.specs.Prelude.{insert}
use Rattle.std.specs.List.{position_or_len}
use Rattle.std.proofs.lemmas.Grind.{common_steps}
use Rattle.image.specs.declared.cap_entry.CapEntry.{CapEntry}
use Rattle.image.specs.Image.{Section}
use Rattle.assembler.specs.Capabilities.{entered}
use Rattle.assembler.specs.Faults.{inserted}

insert-later : (t : Section) (ts : List Section) (i : ℕ) (s : Section) → insert (t ∷ ts) (1 + i) s ≡ t ∷ insert ts i s
insert-later t ts i s = grind (arith, common_steps)

pub inserted-insert : (s : Section) (ts : List Section) → insert ts (position_or_len (λ t. nat_lt s.address t.address) ts) s ≡ inserted s ts
inserted-insert s [] = refl
inserted-insert s (t ∷ ts) =
    elim (nat_lt s.address t.address) as
    (λ b. insert (t ∷ ts) (cond (not b) (1 + position_or_len (λ u. nat_lt s.address u.address) ts) 0) s
    ≡ cond b (s ∷ t ∷ ts) (t ∷ inserted s ts)) [
      | true ↦ refl
      | false ↦ insert-later t ts _ s ∙ ap (λ r. t ∷ r) (inserted-insert s ts)
    ]

pub inserted-at : (s : Section) (ts new : List Section) (a r : ℕ) → a ≡ s.address → r ≡ position_or_len (λ t. nat_lt a t.address) ts
    → new ≡ insert ts r s → new ≡ inserted s ts
inserted-at s ts new a r e f g =
    g ∙ ap (λ i. insert ts i s) (f ∙ ap (λ b. position_or_len (λ t. nat_lt b t.address) ts) e) ∙ inserted-insert s ts

-- and a capability among capabilities
later-entry : (t : CapEntry) (ts : List CapEntry) (i : ℕ) (s : CapEntry) → insert (t ∷ ts) (1 + i) s ≡ t ∷ insert ts i s
later-entry t ts i s = grind (arith, common_steps)

entered-insert : (s : CapEntry) (ts : List CapEntry) → insert ts (position_or_len (λ t. nat_lt s.place t.place) ts) s ≡ entered s ts
entered-insert s [] = refl
entered-insert s (t ∷ ts) =
    elim (nat_lt s.place t.place) as
    (λ b. insert (t ∷ ts) (cond (not b) (1 + position_or_len (λ u. nat_lt s.place u.place) ts) 0) s
    ≡ cond b (s ∷ t ∷ ts) (t ∷ entered s ts)) [
      | true ↦ refl
      | false ↦ later-entry t ts _ s ∙ ap (λ r. t ∷ r) (entered-insert s ts)
    ]

pub entered-at : (s : CapEntry) (ts new : List CapEntry) (r : ℕ) → r ≡ position_or_len (λ t. nat_lt s.place t.place) ts
    → new ≡ insert ts r s → new ≡ entered s ts
entered-at s ts new r f g = g ∙ ap (λ i. insert ts i s) f ∙ entered-insert s ts
