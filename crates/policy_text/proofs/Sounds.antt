-- Ranges that are read are not empty, word by word, part by part and line by line.
use Rattle.std.proofs.Common.{◌≡◌, ℕ, ◌+◌, ◌^◌, ◌<◌, ◌≤◌, ◌==◌, nat_lt, Bool, true, false, ◌&&◌, List, [], ◌∷◌, ◌++◌, length}
use Rattle.std.proofs.Common.{Option, Some, None, Result, Ok, Err, IfSome, refl, subst, arith}
use Rattle.std.specs.Prelude.{if◌then◌else◌, option_map, unwrap_or, ok_or, codes}
use Rattle.std.specs.List.{AllByRecursion}
use Rattle.std.proofs.Common.{ℤ, pos, negsuc, int_lt, ◌%◌, length-append}
use Rattle.std.proofs.lemmas.Bool.Decides.{nat_tests}
use Rattle.asm_lines.specs.declared.fault.LineFault.{LineFault}
use Rattle.asm_lines.specs.Number.{number_of}
use Rattle.asm_lines.specs.Operand.{ranged}
use Rattle.asm_lines.specs.Statement.{is_word}
use Rattle.asm_lines.specs.Text.{pieces_between}
use Rattle.symbols.specs.Symbols.{Symbol, lines_of}
use Rattle.asm_lines.specs.Words.{words_of, read_number}
use Rattle.reach.specs.declared.range.Range.{Range}
use Rattle.policy_text.specs.declared.fault.PolicyCode.{PolicyCode}
use Rattle.policy_text.specs.declared.fault.PolicyCode.TheVariants.{P1, P2, P4, P5, P6, P8}
use Rattle.policy_text.specs.declared.part.Part.{Part}
use Rattle.policy_text.specs.declared.part.Part.TheVariants.{Store, Load, Execute, Keep, Enter, Transmit, Halt, Timer, System}
use Rattle.policy_text.specs.declared.part.Part.TheVariants.{Seal, Types, OrCaller}
use Rattle.policy.specs.Terms.{Terms}
use Rattle.policy_text.specs.Policy.{Definition, Parts, Line, Read, nothing_read, nothing, definition, rule, any_code}
use Rattle.policy_text.specs.Policy.{◌>>=◌, uncommented, cut_at, cut_at_dots}
use Rattle.policy_text.specs.Policy.{range, number_up_to, address_or_code, to_of, filled, range_of}
use Rattle.policy_text.specs.Policy.{by_name, defined, device_named, ranges_by, ranges_in, ranges_of, register, spoken_of}
use Rattle.policy_text.specs.Policy.{ranges_or, part_named, new_part, no_parts, within_of, answer_of, numbers_of, types_of, with_part}
use Rattle.policy_text.specs.Policy.{caller_of}
use Rattle.policy_text.specs.Policy.{part_read, parts_read, everywhere, said, after_when, after_any, code_by, code_of, rule_of}
use Rattle.policy_text.specs.Policy.{name_of, new_name}
use Rattle.policy_text.specs.Policy.{definition_of, rule_line, line_by, line_of, with_line, at_line, policy_from, policy_of}
use Rattle.policy_text.specs.Sound.{AreFilled, IsSound}

bind_ok : {A B : Type 0} (r : Result A PolicyCode) (f : A → Result B PolicyCode) (y : B) → (r >>= f) ≡ Ok y
    → (x : A) × (r ≡ Ok x) × (f x ≡ Ok y)
bind_ok (Ok x) f y h = (x, refl, h)
bind_ok (Err code) f y h = cc

abbrev fine : {A : Type 0} → A → Result A PolicyCode
fine x = Ok x

ok_inside : {A : Type 0} (x y : A) → fine x ≡ Ok y → x ≡ y
ok_inside x y h = cc

-- which way a test went
then_ok : {A : Type 0} (b : Bool) (code : PolicyCode) (x y : A) → (if b then Ok x else Err code) ≡ Ok y → (b ≡ true) × (x ≡ y)
then_ok true code x y h = (refl, cc)
then_ok false code x y h = cc

all_append : {A : Type 0} (P : A → Type 0) (xs ys : List A) → AllByRecursion P xs → AllByRecursion P ys → AllByRecursion P (xs ++ ys)
all_append P [] ys p q = q
all_append P (x ∷ xs) ys p q = (p.0, all_append P xs ys p.1 q)

-- ---- ranges

-- some, and none empty
record Good (ranges : List Range) : Type 0 where
  some : 0 < length ranges
  filled : AreFilled ranges

abbrev AreGood : List Definition → Type 0
AreGood definitions = AllByRecursion (λ d. Good d.ranges) definitions

filled_is : (from to : ℕ) (r : Range) → filled from to ≡ Ok r → r.from < r.to
filled_is from to r h =
    let k = then_ok (nat_lt from to) P5 (range from to) r h in
    let below : from < to = grind (arith, nat_tests) in
    subst (λ (x : Range). x.from < x.to) k.1 below

range_is : (symbols : List Symbol) (before after : List ℕ) (r : Range) → range_of symbols before after ≡ Ok r → r.from < r.to
unfolding range_of
range_is symbols before after r h =
    let from = bind_ok (address_or_code symbols before) (λ f. to_of symbols f after >>= λ t. filled f t) r h in
    let to = bind_ok (to_of symbols from.0 after) (λ t. filled from.0 t) r from.2 in
    filled_is from.0 to.0 r to.2

defined_is : (ds : List Definition) → AreGood ds → (name : List ℕ) (rs : List Range) → ok_or (defined ds name) P2 ≡ Ok rs → Good rs
defined_is [] g name rs h = cc
defined_is (d ∷ ds) g name rs h =
    elim (is_word d.name name) as (λ t. is_word d.name name ≡ t → Good rs) [
      | true ↦ λ e. let k : fine d.ranges ≡ Ok rs = rw e at h in subst Good (ok_inside d.ranges rs k) g.0
      | false ↦ λ e. let k : ok_or (defined ds name) P2 ≡ Ok rs = rw e at h in defined_is ds g.1 name rs k
    ] refl

named_is : (o : Option (List Range)) (device : Option ℕ) (rs : List Range) → (ok_or o P2 ≡ Ok rs → Good rs)
    → by_name o device ≡ Ok rs → Good rs
named_is (Some ranges) device rs good h = good h
named_is None (Some from) rs good h =
    subst Good (ok_inside (register from ∷ []) rs h) (record { some = omega arith; filled = (omega arith, tt) })
named_is None None rs good h = cc

module _ (symbols : List Symbol) (ds : List Definition) (g : AreGood ds) where
  by_is : (word : List ℕ) (cut : Option (List ℕ × List ℕ)) (rs : List Range) → ranges_by symbols ds word cut ≡ Ok rs → Good rs
  by_is word (Some sides) rs h =
      let one = bind_ok (range_of symbols sides.0 sides.1) (λ one. Ok (one ∷ [])) rs h in
      let k = ok_inside (one.0 ∷ []) rs one.2 in
      subst Good k (record { some = omega arith; filled = (range_is symbols sides.0 sides.1 one.0 one.1, tt) })
  by_is word None rs h = named_is (defined ds word) (device_named word) rs (defined_is ds g word rs) h

  in_is : (word : List ℕ) (rs : List Range) → ranges_in symbols ds word ≡ Ok rs → Good rs
  unfolding ranges_in
  in_is word rs h = by_is word (cut_at_dots word) rs h

  of_is : (words : List (List ℕ)) (rs : List Range) → ranges_of symbols ds words ≡ Ok rs → AreFilled rs
  of_is [] rs h = subst AreFilled (ok_inside [] rs h) tt
  of_is (word ∷ words) rs h =
      let first = bind_ok (ranges_in symbols ds word) (λ f. ranges_of symbols ds words >>= λ o. Ok (f ++ o)) rs h in
      let others = bind_ok (ranges_of symbols ds words) (λ o. Ok (first.0 ++ o)) rs first.2 in
      subst AreFilled (ok_inside (first.0 ++ others.0) rs others.2)
      (all_append (λ (r : Range). r.from < r.to) first.0 others.0 (in_is word first.0 first.1).filled (of_is words others.0 others.1))

  some_is : (word : List ℕ) (words : List (List ℕ)) (rs : List Range) → ranges_of symbols ds (word ∷ words) ≡ Ok rs → Good rs
  some_is word words rs h =
      let first = bind_ok (ranges_in symbols ds word) (λ f. ranges_of symbols ds words >>= λ o. Ok (f ++ o)) rs h in
      let others = bind_ok (ranges_of symbols ds words) (λ o. Ok (first.0 ++ o)) rs first.2 in
      let k = ok_inside (first.0 ++ others.0) rs others.2 in
      let good = in_is word first.0 first.1 in
      let more : 0 < length (first.0 ++ others.0) = simp length-append (omega (arith, good.some)) in
      record { some = subst (λ (xs : List Range). 0 < length xs) k more; filled = of_is (word ∷ words) rs h }

  or_is : (code : PolicyCode) (words : List (List ℕ)) (rs : List Range) → ranges_or code symbols ds words ≡ Ok rs → Good rs
  or_is code [] rs h = cc
  or_is code (word ∷ words) rs h = some_is word words rs h

  within_is : (words : List (List ℕ)) (rs : List Range) → within_of symbols ds words ≡ Ok rs → AreFilled rs
  within_is [] rs h = cc
  within_is (word ∷ words) rs h =
      elim (is_word word (codes "within")) as (λ t. is_word word (codes "within") ≡ t → AreFilled rs) [
        | true ↦ λ e. let k : ranges_or P8 symbols ds words ≡ Ok rs = rw e at h in (or_is P8 words rs k).filled
        | false ↦ λ e.
            let k : (if is_word word (codes "no") && (length words == 0) then Ok [] else Err P8) ≡ Ok rs = rw e at h in
            subst AreFilled (then_ok (is_word word (codes "no") && (length words == 0)) P8 [] rs k).1 tt
      ] refl

-- ---- object types

abbrev AreTypes : List ℕ → Type 0
AreTypes ts = AllByRecursion (λ t. t ≤ 0x3FFFB) ts

up_is : (r : Result ℤ LineFault) (n : ℕ) → ok_or (read_number (ranged (pos 0) (pos 0x3FFFB) r)) P4 ≡ Ok n → n ≤ 0x3FFFB
up_is (Ok (pos k)) n h =
    let low : int_lt (pos k) (pos 0) ≡ false = grind (arith, nat_tests) in
    elim (int_lt (pos 0x3FFFB) (pos k)) as (λ t. int_lt (pos 0x3FFFB) (pos k) ≡ t → n ≤ 0x3FFFB) [
      | true ↦ λ e. let x : Err P4 ≡ Ok n = rw (low, e) at h in cc
      | false ↦ λ e.
          let x : fine (k % 2 ^ 64) ≡ Ok n = rw (low, e) at h in
          let y : k % 2 ^ 64 ≡ n = ok_inside (k % 2 ^ 64) n x in
          let z : k ≤ 0x3FFFB = grind (arith, nat_tests) in
          omega arith
    ] refl
up_is (Ok (negsuc k)) n h = cc
up_is (Err fault) n h = cc

numbers_is : (words : List (List ℕ)) (ts : List ℕ) → numbers_of words ≡ Ok ts → AreTypes ts
numbers_is [] ts h = subst AreTypes (ok_inside [] ts h) tt
numbers_is (word ∷ words) ts h =
    let first = bind_ok (number_up_to 0x3FFFB word) (λ f. numbers_of words >>= λ o. Ok (f ∷ o)) ts h in
    let others = bind_ok (numbers_of words) (λ o. Ok (first.0 ∷ o)) ts first.2 in
    subst AreTypes (ok_inside (first.0 ∷ others.0) ts others.2)
    (up_is (number_of word) first.0 first.1, numbers_is words others.0 others.1)

types_is : (words : List (List ℕ)) (ts : List ℕ) → types_of words ≡ Ok ts → AreTypes ts
types_is [] ts h = cc
types_is (word ∷ words) ts h =
    elim (is_word word (codes "none")) as (λ t. is_word word (codes "none") ≡ t → AreTypes ts) [
      | true ↦ λ e.
          let k : (if length words == 0 then Ok [] else Err P8) ≡ Ok ts = rw e at h in
          subst AreTypes (then_ok (length words == 0) P8 [] ts k).1 tt
      | false ↦ λ e. let k : numbers_of (word ∷ words) ≡ Ok ts = rw e at h in numbers_is (word ∷ words) ts k
    ] refl

-- ---- parts and rules

record ArePartsSound (parts : Parts) : Type 0 where
  store : IfSome parts.store AreFilled
  load : IfSome parts.load AreFilled
  execute : IfSome parts.execute AreFilled
  keep : IfSome parts.keep AreFilled
  enter : IfSome parts.enter AreFilled
  types : IfSome parts.types AreTypes

stores_is : (o : Option (List Range)) → IfSome o AreFilled → AreFilled (unwrap_or (option_map (λ ranges. ranges ++ spoken_of) o) everywhere)
stores_is (Some rs) s = all_append (λ (r : Range). r.from < r.to) rs spoken_of s (omega arith, (omega arith, (omega arith, tt)))
stores_is None s = (omega arith, tt)

or_everywhere : (o : Option (List Range)) → IfSome o AreFilled → AreFilled (unwrap_or o everywhere)
or_everywhere (Some rs) s = s
or_everywhere None s = (omega arith, tt)

said_is : (code : List Range) (parts : Parts) → Good code → ArePartsSound parts → IsSound (said code parts)
said_is code parts g s =
    record {
      some_code = g.some;
      code = g.filled;
      store = stores_is parts.store s.store;
      load = or_everywhere parts.load s.load;
      execute = or_everywhere parts.execute s.execute;
      keep = or_everywhere parts.keep s.keep;
      enter = or_everywhere parts.enter s.enter;
      types = s.types;
    }

abbrev named : List ℕ → List Range → Definition
named name ranges = record { name = name; ranges = ranges }

module _ (symbols : List Symbol) (ds : List Definition) (g : AreGood ds) where
  with_is : (p : Parts) (s : ArePartsSound p) (words : List (List ℕ)) (part : Part) (q : Parts)
      → with_part symbols ds p words part ≡ Ok q → ArePartsSound q
  with_is p s words Store q h =
      let k = bind_ok (within_of symbols ds words) (λ said. Ok (record p { store = Some said })) q h in
      subst ArePartsSound (ok_inside (record p { store = Some k.0 }) q k.2)
      (record {
        store = within_is symbols ds g words k.0 k.1;
        load = s.load;
        execute = s.execute;
        keep = s.keep;
        enter = s.enter;
        types = s.types;
      })
  with_is p s words Load q h =
      let k = bind_ok (within_of symbols ds words) (λ said. Ok (record p { load = Some said })) q h in
      subst ArePartsSound (ok_inside (record p { load = Some k.0 }) q k.2)
      (record {
        store = s.store;
        load = within_is symbols ds g words k.0 k.1;
        execute = s.execute;
        keep = s.keep;
        enter = s.enter;
        types = s.types;
      })
  with_is p s words Execute q h =
      let k = bind_ok (within_of symbols ds words) (λ said. Ok (record p { execute = Some said })) q h in
      subst ArePartsSound (ok_inside (record p { execute = Some k.0 }) q k.2)
      (record {
        store = s.store;
        load = s.load;
        execute = within_is symbols ds g words k.0 k.1;
        keep = s.keep;
        enter = s.enter;
        types = s.types;
      })
  with_is p s words Keep q h =
      let k = bind_ok (within_of symbols ds words) (λ said. Ok (record p { keep = Some said })) q h in
      subst ArePartsSound (ok_inside (record p { keep = Some k.0 }) q k.2)
      (record {
        store = s.store;
        load = s.load;
        execute = s.execute;
        keep = within_is symbols ds g words k.0 k.1;
        enter = s.enter;
        types = s.types;
      })
  with_is p s words Enter q h =
      let k = bind_ok (within_of symbols ds words) (λ said. Ok (record p { enter = Some said })) q h in
      subst ArePartsSound (ok_inside (record p { enter = Some k.0 }) q k.2)
      (record {
        store = s.store;
        load = s.load;
        execute = s.execute;
        keep = s.keep;
        enter = within_is symbols ds g words k.0 k.1;
        types = s.types;
      })
  with_is p s words Transmit q h =
      let k = bind_ok (answer_of words) (λ said. Ok (record p { transmit = Some said })) q h in
      subst ArePartsSound (ok_inside (record p { transmit = Some k.0 }) q k.2)
      (record { store = s.store; load = s.load; execute = s.execute; keep = s.keep; enter = s.enter; types = s.types })
  with_is p s words Halt q h =
      let k = bind_ok (answer_of words) (λ said. Ok (record p { halt = Some said })) q h in
      subst ArePartsSound (ok_inside (record p { halt = Some k.0 }) q k.2)
      (record { store = s.store; load = s.load; execute = s.execute; keep = s.keep; enter = s.enter; types = s.types })
  with_is p s words Timer q h =
      let k = bind_ok (answer_of words) (λ said. Ok (record p { timer = Some said })) q h in
      subst ArePartsSound (ok_inside (record p { timer = Some k.0 }) q k.2)
      (record { store = s.store; load = s.load; execute = s.execute; keep = s.keep; enter = s.enter; types = s.types })
  with_is p s words System q h =
      let k = bind_ok (answer_of words) (λ said. Ok (record p { system = Some said })) q h in
      subst ArePartsSound (ok_inside (record p { system = Some k.0 }) q k.2)
      (record { store = s.store; load = s.load; execute = s.execute; keep = s.keep; enter = s.enter; types = s.types })
  with_is p s words Seal q h =
      let k = bind_ok (answer_of words) (λ said. Ok (record p { seal = Some said })) q h in
      subst ArePartsSound (ok_inside (record p { seal = Some k.0 }) q k.2)
      (record { store = s.store; load = s.load; execute = s.execute; keep = s.keep; enter = s.enter; types = s.types })
  with_is p s words Types q h =
      let k = bind_ok (types_of words) (λ said. Ok (record p { types = Some said })) q h in
      subst ArePartsSound (ok_inside (record p { types = Some k.0 }) q k.2)
      (record { store = s.store; load = s.load; execute = s.execute; keep = s.keep; enter = s.enter; types = types_is words k.0 k.1 })
  with_is p s words OrCaller q h =
      let k = bind_ok (caller_of words) (λ said. Ok (record p { or_caller = said })) q h in
      subst ArePartsSound (ok_inside (record p { or_caller = k.0 }) q k.2)
      (record { store = s.store; load = s.load; execute = s.execute; keep = s.keep; enter = s.enter; types = s.types })

  part_is : (p : Parts) (s : ArePartsSound p) (words : List (List ℕ)) (q : Parts) → part_read symbols ds p words ≡ Ok q → ArePartsSound q
  part_is p s [] q h = cc
  part_is p s (name ∷ words) q h =
      let k = bind_ok (ok_or (part_named name) P6 >>= new_part p) (with_part symbols ds p words) q h in with_is p s words k.0 q k.2

  parts_is : (p : Parts) (s : ArePartsSound p) (texts : List (List ℕ)) (q : Parts) → parts_read symbols ds p texts ≡ Ok q → ArePartsSound q
  parts_is p s [] q h = subst ArePartsSound (ok_inside p q h) s
  parts_is p s (text ∷ texts) q h =
      let k = bind_ok (part_read symbols ds p (words_of text)) (λ more. parts_read symbols ds more texts) q h in
      parts_is k.0 (part_is p s (words_of text) k.0 k.1) texts q k.2

  code_is : (words : Option (List (List ℕ))) (rs : List Range) → code_by symbols ds words ≡ Ok rs → Good rs
  code_is (Some words) rs h = or_is symbols ds g P1 words rs h
  code_is None rs h = cc

  rule_is : (before after : List ℕ) (r : Terms) → rule_of symbols ds before after ≡ Ok r → IsSound r
  unfolding rule_of
  rule_is before after r h =
      let read = parts_read symbols ds no_parts (pieces_between after) in
      let code = bind_ok (code_of symbols ds (words_of before)) (λ code. read >>= λ parts. Ok (said code parts)) r h in
      let parts = bind_ok read (λ parts. Ok (said code.0 parts)) r code.2 in
      let none : ArePartsSound no_parts = record { store = tt; load = tt; execute = tt; keep = tt; enter = tt; types = tt } in
      subst IsSound (ok_inside (said code.0 parts.0) r parts.2)
      (said_is code.0 parts.0 (code_is (after_when (words_of before)) code.0 code.1)
      (parts_is no_parts none (pieces_between after) parts.0 parts.1))

  definition_is : (before after : List ℕ) (d : Definition) → definition_of symbols ds before after ≡ Ok d → Good d.ranges
  unfolding definition_of
  definition_is before after d h =
      let read = ranges_or P1 symbols ds (words_of after) in
      let name = bind_ok (name_of (words_of before) >>= new_name ds) (λ n. read >>= λ rs. Ok (named n rs)) d h in
      let ranges = bind_ok read (λ rs. Ok (named name.0 rs)) d name.2 in
      subst (λ (x : Definition). Good x.ranges) (ok_inside (named name.0 ranges.0) d ranges.2)
      (or_is symbols ds g P1 (words_of after) ranges.0 ranges.1)

-- ---- lines

abbrev IsLineSound : Line → Type 0
IsLineSound nothing = Unit {0}
IsLineSound (definition d) = Good d.ranges
IsLineSound (rule r) = IsSound r
IsLineSound (any_code ranges) = AreFilled ranges

module _ (symbols : List Symbol) (ds : List Definition) (g : AreGood ds) where
  rule_line_is : (line : List ℕ) (cut : Option (List ℕ × List ℕ)) (l : Line) → rule_line symbols ds line cut ≡ Ok l → IsLineSound l
  rule_line_is line (Some sides) l h =
      let r = bind_ok (rule_of symbols ds sides.0 sides.1) (λ r. Ok (rule r)) l h in
      subst IsLineSound (ok_inside (rule r.0) l r.2) (rule_is symbols ds g sides.0 sides.1 r.0 r.1)
  rule_line_is line None l h =
      let words = after_any (words_of line) in
      let ranges = bind_ok (code_by symbols ds words) (λ ranges. Ok (any_code ranges)) l h in
      subst IsLineSound (ok_inside (any_code ranges.0) l ranges.2) (code_is symbols ds g words ranges.0 ranges.1).filled

  line_by_is : (line : List ℕ) (cut : Option (List ℕ × List ℕ)) (l : Line) → line_by symbols ds line cut ≡ Ok l → IsLineSound l
  line_by_is line (Some sides) l h =
      let d = bind_ok (definition_of symbols ds sides.0 sides.1) (λ d. Ok (definition d)) l h in
      subst IsLineSound (ok_inside (definition d.0) l d.2) (definition_is symbols ds g sides.0 sides.1 d.0 d.1)
  line_by_is line None l h = rule_line_is line (cut_at 58 line) l h

  line_is : (line : List ℕ) (l : Line) → line_of symbols ds line ≡ Ok l → IsLineSound l
  unfolding line_of
  line_is line l h =
      elim (length (words_of line) == 0) as (λ t. (length (words_of line) == 0) ≡ t → IsLineSound l) [
        | true ↦ λ e. let k : fine nothing ≡ Ok l = rw e at h in subst IsLineSound (ok_inside nothing l k) tt
        | false ↦ λ e. let k : line_by symbols ds line (cut_at 61 line) ≡ Ok l = rw e at h in line_by_is line (cut_at 61 line) l k
      ] refl

abbrev AreSound : List (ℕ × Terms) → Type 0
AreSound rules = AllByRecursion (λ r. IsSound r.1) rules

record IsReadSound (read : Read) : Type 0 where
  definitions : AreGood read.definitions
  rules : AreSound read.rules

with_line_is : (number : ℕ) (read : Read) (l : Line) → IsReadSound read → IsLineSound l → IsReadSound (with_line number read l)
with_line_is number read nothing s i = s
with_line_is number read (definition d) s i =
    record { definitions = all_append (λ (d : Definition). Good d.ranges) read.definitions (d ∷ []) s.definitions (i, tt); rules = s.rules }
with_line_is number read (rule r) s i =
    let rules = all_append (λ (r : ℕ × Terms). IsSound r.1) read.rules ((number, r) ∷ []) s.rules (i, tt) in
    record { definitions = s.definitions; rules = rules }
with_line_is number read (any_code ranges) s i = record { definitions = s.definitions; rules = s.rules }

at_line_ok : {A B : Type 0} (number : ℕ) (r : Result A PolicyCode) (f : A → Result B (ℕ × PolicyCode)) (y : B) → at_line number r f ≡ Ok y
    → (x : A) × (r ≡ Ok x) × (f x ≡ Ok y)
at_line_ok number (Ok x) f y h = (x, refl, h)
at_line_ok number (Err code) f y h = cc

from_is : (symbols : List Symbol) (lines : List (List ℕ)) (number : ℕ) (read : Read) (rules : List (ℕ × Terms)) → IsReadSound read
    → policy_from symbols number read lines ≡ Ok rules → AreSound rules
from_is symbols [] number read rules s h = let k : read.rules ≡ rules = cc in subst AreSound k s.rules
from_is symbols (line ∷ lines) number read rules s h =
    let k = at_line_ok number (line_of symbols read.definitions (uncommented line))
    (λ said. policy_from symbols (number + 1) (with_line number read said) lines) rules h in
    from_is symbols lines (number + 1) (with_line number read k.0) rules
    (with_line_is number read k.0 s (line_is symbols read.definitions s.definitions (uncommented line) k.0 k.1)) k.2

pub policy_is : (symbols : List Symbol) (text : List ℕ) (rules : List (ℕ × Terms)) → policy_of symbols text ≡ Ok rules
    → AllByRecursion (λ r. IsSound r.1) rules
policy_is symbols text rules h =
    let none : IsReadSound nothing_read = record { definitions = tt; rules = tt } in
    from_is symbols (lines_of text) 1 _ rules none h
