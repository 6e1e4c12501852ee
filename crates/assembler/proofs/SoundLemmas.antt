-- A line without a fault: its values are known, and its instructions have words.
use Rattle.std.proofs.Common.{option_map, ◌≡◌, ℕ, ◌-◌, ◌^◌, ◌<◌, ◌≤◌, Bool, true, false, not, ◌==◌, ◌⊎◌, inl, inr, map}
use Rattle.std.proofs.Common.{if◌then◌else◌, ℤ, pos, negsuc, ◌-ℤ◌}
use Rattle.std.proofs.Common.{List, [], ◌∷◌, Option, Some, None, is_none, is_some, refl, sym, ap, ◌∙◌, subst, arith}
use Rattle.std.specs.Option.{option_or}
use Rattle.std.proofs.lemmas.Bool.Decides.{nat_tests}
use Rattle.std.proofs.lemmas.Int.{ints}
use Rattle.isa_rows.specs.declared.formats.Format.{Format}
use Rattle.isa_rows.specs.declared.formats.Format.TheVariants.{Branch}
use Rattle.isa_rows.specs.Line.{line_of}
use Rattle.isa_rows.specs.Operands.{IsBranchOffset, IsJumpOffset}
use Rattle.asm_lines.specs.declared.fault.LineFault.{LineFault}
use Rattle.asm_lines.specs.declared.fault.LineFault.TheVariants as line
use Rattle.asm_lines.specs.declared.parsed.Parsed.{Parsed}
use Rattle.asm_lines.specs.declared.parsed.Statement.{Statement as Read}
use Rattle.asm_lines.specs.declared.parsed.Statement.TheVariants as read
use Rattle.asm_lines.specs.declared.parsed.Instruction.TheVariants.{Row, Load}
use Rattle.asm_lines.specs.declared.parsed.Setting.TheVariants.{Entry}
use Rattle.asm_lines.specs.declared.parsed.Directive.{Directive}
use Rattle.asm_lines.specs.declared.parsed.Directive.TheVariants.{Zeros, Values, Ascii, Capability}
use Rattle.asm_lines.specs.Text.{pieces_of}
use Rattle.asm_lines.specs.Number.{is_in_limits}
use Rattle.asm_lines.specs.Operand.{wrapped}
use Rattle.asm_lines.specs.Statement.{Statement, instruction, setting, origin, contents, item, is_size, is_sized, is_in_size, is_natural}
use Rattle.asm_lines.specs.Statement.{capability_parts}
use Rattle.asm_lines.specs.Line.{Line, RowFits, IsTargetOffset}
use Rattle.asm_lines.specs.Seen.{seen_expression, seen_statement, seen_line}
use Rattle.asm_lines.specs.Bounded.{IsBounded, IsBoundedIfAny}
use Rattle.assembler.specs.declared.fault.AsmCode.{AsmCode}
use Rattle.assembler.specs.declared.fault.AsmCode.TheVariants.{A1, A2, A3, A4, A5, A6, A7, A11}
use Rattle.assembler.specs.Places.{Symbols, size_at}
use Rattle.assembler.specs.Values.{value_of, known_and, is_reached, reach_of, asked_value, asked_part, part_of, asked_by_data, asked_by}
use Rattle.assembler.specs.Values.{has_value_beyond}
use Rattle.assembler.specs.Values.{has_unknown_name, is_out_of_reach}
use Rattle.assembler.specs.Checks.{named_fault}
use Rattle.assembler.specs.Bytes.{or_zero}
use Rattle.assembler.specs.Capabilities.{capability_in, is_inexact, has_inexact_range, part_value}
use Rattle.assembler.specs.Faults.{Assembled, page_count, line_fault, is_statement_misplaced, misplaced_bytes, misplaced_capability}
use Rattle.assembler.specs.Faults.{lacks_place_for, is_instruction}
use Rattle.assembler.specs.FaultLaws.{fault_by, fault_in_text, statement_fault, line_fault-by}
use Rattle.assembler.proofs.TestLemmas.{or-false, not-false, and-first}
use Rattle.assembler.specs.Sound.{IsValued, HasWords, ArePartsKnown}
use Rattle.assembler.proofs.AskedLemmas.{AreLimited, known-asked}

-- a test before others that tells nothing
if-none : {A : Type 0} (test : Bool) (x : A) (later : Option A) → (if test then Some x else later) ≡ None → (test ≡ false) × (later ≡ None)
if-none true x later h = cc
if-none false x later h = (refl, h)

not-none : {A : Type 0} (test : Bool) (x : A) (later : Option A) → (if not test then later else Some x) ≡ None
    → (test ≡ false) × (later ≡ None)
not-none true x later h = cc
not-none false x later h = (refl, h)

neither : {A : Type 0} (first later : Option A) → option_or first later ≡ None → (first ≡ None) × (later ≡ None)
neither None later h = (refl, h)
neither (Some x) later h = cc

both-none : {A : Type 0} (first later : Option A) → is_some (option_or first later) ≡ false
    → (is_some first ≡ false) × (is_some later ≡ false)
both-none None later h = (refl, h)
both-none (Some x) later h = cc

no-fault : (code : AsmCode) → Some code ≡ None → ⊥
no-fault code h = cc

-- a statement that has no fault where it stands
pub record IsFaultless (symbols : Symbols) (s : Assembled) (statement : Statement) : Type 0 where
  pub in_range : has_value_beyond symbols s.places.place statement ≡ false
  pub named : has_unknown_name symbols s.places.place statement ≡ false
  pub near : is_out_of_reach (page_count s) symbols s.places.place statement ≡ false
  pub placed : is_some (misplaced_bytes s s.places.place (size_at statement s.places.place) (is_instruction statement)) ≡ false
  pub granule : is_some (misplaced_capability s (capability_in statement) s.places.place) ≡ false
  pub exact : is_inexact symbols s.places.place statement ≡ false

pub statement_fault-none : (symbols : Symbols) (s : Assembled) (statement : Statement) → statement_fault symbols s statement ≡ None
    → IsFaultless symbols s statement
unfolding statement_fault named_fault has_value_beyond has_unknown_name is_out_of_reach
statement_fault-none symbols s statement h =
    let both = neither _ _ h in
    let a = not-none _ A3 _ both.0 in
    let b = not-none _ A5 _ a.1 in
    let c = not-none _ A6 _ b.1 in
    let d = if-none _ A7 _ both.1 in
    let e = if-none _ A11 None d.1 in
    let place = both-none (misplaced_bytes s s.places.place (size_at statement s.places.place) (is_instruction statement)) _ d.0 in
    record { in_range = a.0; named = b.0; near = c.0; placed = place.0; granule = place.1; exact = e.0 }

-- a line that has no fault
pub record IsLineFaultless (symbols : Symbols) (s : Assembled) (l : Line) : Type 0 where
  pub parsed : l.fault ≡ None
  pub timely : is_statement_misplaced s l.statement ≡ false
  pub in_text : fault_in_text symbols s l.statement ≡ None

fault_by-none : (symbols : Symbols) (s : Assembled) (l : Line) (fault : Option LineFault) → fault_by symbols s l fault ≡ None
    → (fault ≡ None) × (is_statement_misplaced s l.statement ≡ false) × (fault_in_text symbols s l.statement ≡ None)
unfolding fault_by
fault_by-none symbols s l (Some line.A8) h = cc
fault_by-none symbols s l (Some line.A9) h = cc
fault_by-none symbols s l (Some line.A1) h = absurd (no-fault A1 (if-none _ A4 (Some A1) h).1)
fault_by-none symbols s l (Some line.A2) h = absurd (no-fault A2 (if-none _ A4 (Some A2) h).1)
fault_by-none symbols s l (Some line.A3) h = absurd (no-fault A3 (if-none _ A2 (Some A3) (if-none _ A4 _ h).1).1)
fault_by-none symbols s l None h = let a = if-none _ A4 _ h in let b = if-none _ A2 _ a.1 in (refl, b.0, b.1)

pub line_fault-none : (symbols : Symbols) (s : Assembled) (l : Line) → line_fault symbols s l ≡ None → IsLineFaultless symbols s l
line_fault-none symbols s l h =
    let a = fault_by-none symbols s l l.fault (sym (line_fault-by symbols s l) ∙ h) in
    record { parsed = a.0; timely = a.1; in_text = a.2 }

-- the values of so many bytes lie within the limits
one-size : (n : ℕ) → is_size n ≡ true → (n ≡ 1) ⊎ ((n ≡ 2) ⊎ ((n ≡ 4) ⊎ (n ≡ 8)))
one-size n h =
    elim (n == 1) as (λ b. (n == 1) ≡ b → (n ≡ 1) ⊎ ((n ≡ 2) ⊎ ((n ≡ 4) ⊎ (n ≡ 8)))) [
      | true ↦ λ e. inl (grind (arith, nat_tests))
      | false ↦ λ e.
          elim (n == 2) as (λ b. (n == 2) ≡ b → (n ≡ 1) ⊎ ((n ≡ 2) ⊎ ((n ≡ 4) ⊎ (n ≡ 8)))) [
            | true ↦ λ f. inr (inl (grind (arith, nat_tests)))
            | false ↦ λ f.
                elim (n == 4) as (λ b. (n == 4) ≡ b → (n ≡ 1) ⊎ ((n ≡ 2) ⊎ ((n ≡ 4) ⊎ (n ≡ 8)))) [
                  | true ↦ λ g. inr (inr (inl (grind (arith, nat_tests))))
                  | false ↦ λ g. inr (inr (inr (grind (arith, nat_tests))))
                ] refl
          ] refl
    ] refl

in-size-limits : (size : ℕ) (v : ℤ) → (size ≡ 1) ⊎ ((size ≡ 2) ⊎ ((size ≡ 4) ⊎ (size ≡ 8))) → is_in_size size v ≡ true
    → is_in_limits v ≡ true
in-size-limits size v (inl e) h = let g = rw e at h in grind (arith, ints, nat_tests)
in-size-limits size v (inr (inl e)) h = let g = rw e at h in grind (arith, ints, nat_tests)
in-size-limits size v (inr (inr (inl e))) h = let g = rw e at h in grind (arith, ints, nat_tests)
in-size-limits size v (inr (inr (inr e))) h = let g = rw e at h in grind (arith, ints, nat_tests)

limited-values : (size : ℕ) (ps : List (List ℕ)) → is_size size ≡ true → AreLimited (map (asked_value size) ps)
limited-values size [] h = tt
limited-values size (p ∷ ps) h = (λ v g. in-size-limits size v (one-size size h) g, limited-values size ps h)

-- so do the operands of .cap
natural-limits : (most : ℕ) (v : ℤ) → most < 2 ^ 64 → is_natural most v ≡ true → is_in_limits v ≡ true
natural-limits most (pos n) h e = grind (arith, ints, nat_tests)
natural-limits most (negsuc n) h e = cc

pub limited-parts : (operands : List ℕ) → AreLimited (map (asked_part operands) capability_parts)
limited-parts operands = (
  λ v h. natural-limits (2 ^ 64 - 1) v (omega arith) h,
  (
    λ v h. natural-limits (2 ^ 64 - 1) v (omega arith) h,
    (λ v h. natural-limits 0xffff v (omega arith) h, (λ v h. natural-limits 1 v (omega arith) h, tt)),
  ),
)

limited-data : (d : Directive) (number : ℕ) (operands : List ℕ) → is_sized d ≡ true → AreLimited (asked_by_data (item d number operands))
limited-data (Zeros f) number operands h = tt
limited-data (Values size) number operands h = limited-values size (pieces_of operands) h
limited-data Ascii number operands h = tt
limited-data Capability number operands h = limited-parts operands

limited : (r : Read) → IsBounded r → AreLimited (asked_by (seen_statement r))
limited (read.Instruction (Row i (Some e))) b = (λ v h. h, tt)
limited (read.Instruction (Load capability rd value)) b = (λ v h. h, tt)
limited (read.Setting (Entry e)) b = (λ v h. h, tt)
limited (read.Data d) b = limited-data d.directive d.number d.text.now (and-first _ _ b)
limited other b = tt

-- each value of a statement without a fault is known
faultless-valued : (symbols : Symbols) (s : Assembled) (r : Read) → IsBounded r → IsFaultless symbols s (seen_statement r)
    → IsValued symbols s.places.place (seen_statement r)
unfolding has_value_beyond has_unknown_name
faultless-valued symbols s r b f = known-asked symbols s.places.place (asked_by (seen_statement r)) (limited r b) f.in_range f.named

-- an even distance within reach is one that the format holds
jump-offset : (d : ℤ) → is_reached 1048576 d ≡ true → IsJumpOffset (wrapped d)
jump-offset (pos n) h = (grind (arith, nat_tests), inl (grind (arith, nat_tests)))
jump-offset (negsuc n) h = (grind (arith, nat_tests), inr (grind (arith, nat_tests), grind (arith, nat_tests)))

branch-offset : (d : ℤ) → is_reached 4096 d ≡ true → IsBranchOffset (wrapped d)
branch-offset (pos n) h = (grind (arith, nat_tests), inl (grind (arith, nat_tests)))
branch-offset (negsuc n) h = (grind (arith, nat_tests), inr (grind (arith, nat_tests), grind (arith, nat_tests)))

reached-offset : (format : Format) (d : ℤ) → is_reached (reach_of format) d ≡ true → IsTargetOffset format (wrapped d)
reached-offset Branch d h = branch-offset d h
reached-offset other d h = jump-offset d h

near-offset : (format : Format) (here : ℕ) (value : Option ℤ) → is_none value ≡ false
    → known_and (λ v. not (is_reached (reach_of format) (v -ℤ pos here))) value ≡ false
    → IsTargetOffset format (wrapped (or_zero value -ℤ pos here))
near-offset format here None g h = cc
near-offset format here (Some v) g h = reached-offset format (v -ℤ pos here) (not-false _ h)

-- each instruction of a statement without a fault has a word
faultless-words : (symbols : Symbols) (s : Assembled) (l : Line) (r : Read) → IsBounded r → RowFits l
    → l.statement ≡ Some (seen_statement r) → l.fault ≡ None → IsFaultless symbols s (seen_statement r)
    → HasWords symbols s.places.place (seen_statement r)
unfolding has_unknown_name is_out_of_reach
faultless-words symbols s l (read.Instruction (Row i None)) b fits e p f = fits i None e p
faultless-words symbols s l (read.Instruction (Row i (Some x))) b fits e p f =
    fits i (Some (seen_expression x)) e p _
    (near-offset (line_of i.row).format s.places.place (value_of symbols s.places.place (seen_expression x)) (or-false _ _ f.named).0
    (or-false _ _ f.near).0)
faultless-words symbols s l (read.Instruction (Load capability rd value)) b fits e p f = b.0
faultless-words symbols s l (read.Setting t) b fits e p f = tt
faultless-words symbols s l (read.Origin n) b fits e p f = tt
faultless-words symbols s l (read.Data d) b fits e p f = tt

-- ---- the capability of a statement without a fault

-- of a number that is known and at most so much
natural-part : (most : ℕ) (value : Option ℤ) → most < 2 ^ 64 → is_none value ≡ false
    → known_and (λ v. not (is_natural most v)) value ≡ false → wrapped (or_zero value) ≤ most
natural-part most None small h g = cc
natural-part most (Some (pos n)) small h g = grind (arith, nat_tests)
natural-part most (Some (negsuc n)) small h g = cc

-- the values of its operands, each in its range
pub record AreInRange (symbols : Symbols) (here : ℕ) (operands : List ℕ) : Type 0 where
  pub known : ArePartsKnown symbols here (Some operands)
  pub base : part_value symbols here operands 0 ≤ 2 ^ 64 - 1
  pub length : part_value symbols here operands 1 ≤ 2 ^ 64 - 1
  pub perms : part_value symbols here operands 2 ≤ 0xffff
  pub flag : part_value symbols here operands 3 ≤ 1

parts-in-range : (symbols : Symbols) (here n : ℕ) (operands : List ℕ)
    → has_value_beyond symbols here (contents (item Capability n operands)) ≡ false
    → has_unknown_name symbols here (contents (item Capability n operands)) ≡ false → AreInRange symbols here operands
unfolding has_value_beyond has_unknown_name
parts-in-range symbols here n operands h g =
    let b0 = or-false _ _ h in
    let b1 = or-false _ _ b0.1 in
    let b2 = or-false _ _ b1.1 in
    let b3 = or-false _ _ b2.1 in
    let k0 = or-false _ _ g in
    let k1 = or-false _ _ k0.1 in
    let k2 = or-false _ _ k1.1 in
    let k3 = or-false _ _ k2.1 in
    record {
      known = known-asked symbols here (map (asked_part operands) capability_parts) (limited-parts operands) h g;
      base = natural-part (2 ^ 64 - 1) (value_of symbols here (part_of operands 0)) (omega arith) k0.0 b0.0;
      length = natural-part (2 ^ 64 - 1) (value_of symbols here (part_of operands 1)) (omega arith) k1.0 b1.0;
      perms = natural-part 0xffff (value_of symbols here (part_of operands 2)) (omega arith) k2.0 b2.0;
      flag = natural-part 1 (value_of symbols here (part_of operands 3)) (omega arith) k3.0 b3.0;
    }

pub in-range : (symbols : Symbols) (s : Assembled) (n : ℕ) (operands : List ℕ)
    → IsFaultless symbols s (contents (item Capability n operands)) → AreInRange symbols s.places.place operands
in-range symbols s n operands f = parts-in-range symbols s.places.place n operands f.in_range f.named

-- what it names is known already where nothing that it names has a fault
known-parts : (page_count : ℕ) (symbols : Symbols) (here : ℕ) (d : Directive) (n : ℕ) (operands : List ℕ)
    → named_fault page_count symbols here (contents (item d n operands)) ≡ None
    → ArePartsKnown symbols here (capability_in (contents (item d n operands)))
unfolding named_fault has_value_beyond has_unknown_name
known-parts page_count symbols here (Zeros f) n operands h = tt
known-parts page_count symbols here (Values size) n operands h = tt
known-parts page_count symbols here Ascii n operands h = tt
known-parts page_count symbols here Capability n operands h =
    let a = not-none _ A3 _ h in let b = not-none _ A5 _ a.1 in (parts-in-range symbols here n operands a.0 b.0).known

known-if-named : (page_count : ℕ) (symbols : Symbols) (here : ℕ) (s : Statement) → named_fault page_count symbols here s ≡ None
    → ArePartsKnown symbols here (capability_in s)
known-if-named page_count symbols here (instruction i) h = tt
known-if-named page_count symbols here (setting t) h = tt
known-if-named page_count symbols here (origin n) h = tt
known-if-named page_count symbols here (contents (item d n operands)) h = known-parts page_count symbols here d n operands h

pub parts-known : (page_count : ℕ) (symbols : Symbols) (here : ℕ) (s : Statement) (named : Option AsmCode) (operands : Option (List ℕ))
    → named ≡ named_fault page_count symbols here s → named ≡ None → operands ≡ capability_in s → ArePartsKnown symbols here operands
parts-known page_count symbols here s named operands e h same =
    subst (ArePartsKnown symbols here) (sym same) (known-if-named page_count symbols here s (sym e ∙ h))

none-of : (o : Option AsmCode) → is_some o ≡ false → o ≡ None
none-of None h = refl
none-of (Some x) h = cc

pub named-none : (named : Option AsmCode) (some : Bool) → some ≡ is_some named → some ≡ false → named ≡ None
named-none named some d e = none-of named (sym d ∙ e)

-- where nothing that a statement names has a fault, nor has its place, its fault is that of its capability
pub last-fault : (symbols : Symbols) (s : Assembled) (statement : Statement) (count place : ℕ) (named result : Option AsmCode)
    (lacks : Bool) (operands : Option (List ℕ)) → count ≡ page_count s → place ≡ s.places.place
    → named ≡ named_fault count symbols place statement → named ≡ None → lacks ≡ lacks_place_for s statement → lacks ≡ false
    → operands ≡ capability_in statement → result ≡ (if has_inexact_range symbols place operands then Some A11 else None)
    → result ≡ statement_fault symbols s statement
unfolding statement_fault is_inexact
last-fault symbols s statement count place named result lacks operands a b c d f g h r =
    let n : named_fault (page_count s) symbols s.places.place statement ≡ None = rw (a, b) at (sym c ∙ d) in
    let l : lacks_place_for s statement ≡ false = sym f ∙ g in
    r ∙ rw (h, b, n, l) refl

-- what a line without a fault gives those who place its statement
pub record IsSound (symbols : Symbols) (s : Assembled) (r : Read) : Type 0 where
  pub faultless : IsFaultless symbols s (seen_statement r)
  pub valued : IsValued symbols s.places.place (seen_statement r)
  pub words : HasWords symbols s.places.place (seen_statement r)

pub sound : (symbols : Symbols) (s : Assembled) (p : Parsed) (r : Read) → p.statement ≡ Some r → IsBoundedIfAny p.statement
    → RowFits (seen_line p) → line_fault symbols s (seen_line p) ≡ None → IsSound symbols s r
sound symbols s p r e b fits h =
    let n = line_fault-none symbols s (seen_line p) h in
    let seen : (seen_line p).statement ≡ Some (seen_statement r) = ap (option_map seen_statement) e in
    let f = statement_fault-none symbols s (seen_statement r) (sym (ap (fault_in_text symbols s) seen) ∙ n.in_text) in
    let bound : IsBounded r = subst IsBoundedIfAny e b in
    record {
      faultless = f;
      valued = faultless-valued symbols s r bound f;
      words = faultless-words symbols s
          (seen_line p) r bound fits seen n.parsed f;
    }
