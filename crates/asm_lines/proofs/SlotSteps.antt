-- Operands, slot by slot.
use Rattle.std.proofs.Common.{◌≡◌, ℕ, ◌+◌, ◌<◌, List, [], ◌∷◌, Option, Some, None, length, drop, get_or, ◌≤◌, refl, sym, ◌∙◌, map, cond}
use Rattle.std.proofs.Common.{Bool, true, false, ◌==◌}
use Rattle.std.proofs.lemmas.List.{drop_more, drop_all}
use Rattle.std.specs.List.{slice_split, onto_first}
use Rattle.isa_rows.specs.declared.slots.Slot.{Slot}
use Rattle.asm_lines.specs.declared.fault.LineFault.{LineFault}
use Rattle.asm_lines.specs.declared.fault.LineFault.TheVariants.{A2}
use Rattle.asm_lines.specs.Operand.{Draft, told_fault, fault_of, draft_after, filled_slot, filled_draft, filled_fault}
use Rattle.asm_lines.specs.Text.{pieces_left, pieces_between, trimmed}
use Rattle.asm_lines.specs.Statement.{said, load_said}
use Rattle.asm_lines.proofs.Faults.{told_without}

pub draft_step : (slots : List Slot) (i : ℕ) (z : Slot) (p : List ℕ) (ps : List (List ℕ)) (d : Draft) → i < length slots
    → filled_draft (drop i slots) (p ∷ ps) d ≡ filled_draft (drop (i + 1) slots) ps (draft_after d (filled_slot (get_or slots i z) p d))
draft_step slots i z p ps d h = rw (drop_more slots i z h) refl

pub fault_step : (slots : List Slot) (i : ℕ) (z : Slot) (p : List ℕ) (ps : List (List ℕ)) (d : Draft) → i < length slots
    → filled_fault (drop i slots) (p ∷ ps) d
    ≡ told_fault (fault_of (filled_slot (get_or slots i z) p d))
    (filled_fault (drop (i + 1) slots) ps (draft_after d (filled_slot (get_or slots i z) p d)))
fault_step slots i z p ps d h = rw (drop_more slots i z h) refl

-- a slot without an operand
pub draft_without : (slots : List Slot) (d : Draft) → filled_draft slots [] d ≡ d
draft_without [] d = refl
draft_without (s ∷ ss) d = refl

pub fault_without : (slots : List Slot) (i : ℕ) (z : Slot) (d : Draft) → i < length slots → filled_fault (drop i slots) [] d ≡ Some A2
fault_without slots i z d h = rw (drop_more slots i z h) refl

-- an operand without a slot: there is one after a comma, whatever it is
first_onto : (x : ℕ) (parts : List (List ℕ)) (d : Draft) → filled_fault [] (map trimmed (onto_first x parts)) d ≡ Some A2
first_onto x [] d = refl
first_onto x (part ∷ parts) d = refl

fault_beyond : (text : List ℕ) (d : Draft) → filled_fault [] (pieces_between text) d ≡ Some A2
fault_beyond [] d = refl
fault_beyond (x ∷ xs) d =
    let parts = slice_split (λ c. c == 44) xs in
    elim (x == 44) as (λ b. filled_fault [] (map trimmed (cond b ([] ∷ parts) (onto_first x parts))) d ≡ Some A2)
    [ true ↦ refl | false ↦ first_onto x parts d ]

pub fault_of_more : (slots : List Slot) (i : ℕ) (rest : Option (List ℕ)) (text : List ℕ) (fault whole : Option LineFault) (d : Draft)
    → length slots ≤ i → rest ≡ Some text
    → told_fault fault (filled_fault (drop i slots) (pieces_left rest) d) ≡ whole → told_fault fault (Some A2) ≡ whole
fault_of_more slots i rest text fault whole d h some e =
    let gone : drop i slots ≡ [] = drop_all i slots h in
    let more = fault_beyond text d in
    rw (gone, some, more) at e

-- where slots and operands end together, the fault so far is that of all
pub fault_at_end : (slots : List Slot) (i : ℕ) (rest : Option (List ℕ)) (fault whole : Option LineFault) (d : Draft) → length slots ≤ i
    → rest ≡ None
    → told_fault fault (filled_fault (drop i slots) (pieces_left rest) d) ≡ whole → fault ≡ whole
fault_at_end slots i rest fault whole d h none e =
    let gone : drop i slots ≡ [] = drop_all i slots h in
    let same = told_without fault in
    let ended : told_fault fault (filled_fault [] (pieces_left None) d) ≡ whole = rw (gone, none) at e in
    sym same ∙ ended

-- a third operand of a load
load_onto : (capability : Bool) (r e : List ℕ) (x : ℕ) (parts : List (List ℕ))
    → load_said capability (r ∷ e ∷ map trimmed (onto_first x parts)) ≡ said None (Some A2)
load_onto capability r e x [] = refl
load_onto capability r e x (part ∷ parts) = refl

pub load_more : (capability : Bool) (r e text : List ℕ) → load_said capability (r ∷ e ∷ pieces_between text) ≡ said None (Some A2)
load_more capability r e [] = refl
load_more capability r e (x ∷ xs) =
    let parts = slice_split (λ c. c == 44) xs in
    elim (x == 44) as (λ b. load_said capability (r ∷ e ∷ map trimmed (cond b ([] ∷ parts) (onto_first x parts))) ≡ said None (Some A2))
    [ true ↦ refl | false ↦ load_onto capability r e x parts ]
