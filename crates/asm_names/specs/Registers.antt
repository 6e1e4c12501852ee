-- The names of the 32 registers (unprivileged manual, assembly conventions; CHERI ISA version 9, CHERI-RISC-V): by number, by use, and
-- the same as capability registers.
use Rattle.std.specs.Cmp.Lexicographic.{pointwise}
use Rattle.std.specs.Prelude.{ℕ, Bool, if◌then◌else◌, List, [], ◌∷◌, Option, Some, None, position, nat_eq, slice_get, codes}

abbrev pub integer_names : List (List ℕ)
integer_names =
    codes "zero" ∷ codes "ra" ∷ codes "sp" ∷ codes "gp" ∷ codes "tp" ∷ codes "t0" ∷ codes "t1" ∷ codes "t2" ∷
    codes "s0" ∷ codes "s1" ∷ codes "a0" ∷ codes "a1" ∷ codes "a2" ∷ codes "a3" ∷ codes "a4" ∷ codes "a5" ∷
    codes "a6" ∷ codes "a7" ∷ codes "s2" ∷ codes "s3" ∷ codes "s4" ∷ codes "s5" ∷ codes "s6" ∷ codes "s7" ∷
    codes "s8" ∷ codes "s9" ∷ codes "s10" ∷ codes "s11" ∷ codes "t3" ∷ codes "t4" ∷ codes "t5" ∷ codes "t6" ∷ []

abbrev pub capability_names : List (List ℕ)
capability_names =
    codes "cnull" ∷ codes "cra" ∷ codes "csp" ∷ codes "cgp" ∷ codes "ctp" ∷ codes "ct0" ∷ codes "ct1" ∷ codes "ct2" ∷
    codes "cs0" ∷ codes "cs1" ∷ codes "ca0" ∷ codes "ca1" ∷ codes "ca2" ∷ codes "ca3" ∷ codes "ca4" ∷ codes "ca5" ∷
    codes "ca6" ∷ codes "ca7" ∷ codes "cs2" ∷ codes "cs3" ∷ codes "cs4" ∷ codes "cs5" ∷ codes "cs6" ∷ codes "cs7" ∷
    codes "cs8" ∷ codes "cs9" ∷ codes "cs10" ∷ codes "cs11" ∷ codes "ct3" ∷ codes "ct4" ∷ codes "ct5" ∷ codes "ct6" ∷ []

abbrev pub integer_numbers : List (List ℕ)
integer_numbers =
    codes "x0" ∷ codes "x1" ∷ codes "x2" ∷ codes "x3" ∷ codes "x4" ∷ codes "x5" ∷ codes "x6" ∷ codes "x7" ∷
    codes "x8" ∷ codes "x9" ∷ codes "x10" ∷ codes "x11" ∷ codes "x12" ∷ codes "x13" ∷ codes "x14" ∷ codes "x15" ∷
    codes "x16" ∷ codes "x17" ∷ codes "x18" ∷ codes "x19" ∷ codes "x20" ∷ codes "x21" ∷ codes "x22" ∷ codes "x23" ∷
    codes "x24" ∷ codes "x25" ∷ codes "x26" ∷ codes "x27" ∷ codes "x28" ∷ codes "x29" ∷ codes "x30" ∷ codes "x31" ∷ []

abbrev pub capability_numbers : List (List ℕ)
capability_numbers =
    codes "c0" ∷ codes "c1" ∷ codes "c2" ∷ codes "c3" ∷ codes "c4" ∷ codes "c5" ∷ codes "c6" ∷ codes "c7" ∷
    codes "c8" ∷ codes "c9" ∷ codes "c10" ∷ codes "c11" ∷ codes "c12" ∷ codes "c13" ∷ codes "c14" ∷ codes "c15" ∷
    codes "c16" ∷ codes "c17" ∷ codes "c18" ∷ codes "c19" ∷ codes "c20" ∷ codes "c21" ∷ codes "c22" ∷ codes "c23" ∷
    codes "c24" ∷ codes "c25" ∷ codes "c26" ∷ codes "c27" ∷ codes "c28" ∷ codes "c29" ∷ codes "c30" ∷ codes "c31" ∷ []

-- the first of two answers
abbrev pub or_else : {A : Type 0} → Option A → Option A → Option A
or_else (Some a) b = Some a
or_else None b = b

-- the place of a name in a list of names
abbrev pub place_of : List ℕ → List (List ℕ) → Option ℕ
place_of text names = position (pointwise nat_eq text) names

-- the frame pointer is another name of s0, register 8
abbrev pub frame_pointer : List ℕ → Option ℕ
frame_pointer text = if pointwise nat_eq text (codes "fp") then Some 8 else (if pointwise nat_eq text (codes "cfp") then Some 8 else None)

-- the number of the register that a text names, or none
unfoldable pub register_named : List ℕ → Option ℕ
register_named text =
    or_else (place_of text integer_names) (or_else (place_of text capability_names)
    (or_else (place_of text integer_numbers) (or_else (place_of text capability_numbers) (frame_pointer text))))

-- the name that a register is shown by: by use, as a capability register or not
abbrev pub register_name : Bool → ℕ → Option (List ℕ)
register_name capability n = slice_get (if capability then capability_names else integer_names) n
