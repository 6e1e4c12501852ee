-- What is asked of a member.
use Rattle.std.specs.Prelude.{ℕ, ◌+◌, ◌*◌, ◌/◌, Bool, ◌&&◌, max, nat_le, nat_lt}
use Rattle.cap_bounds.specs.CapValue.{CapValue, value_base, value_top}
use Rattle.cap_rights.specs.Rights.{OpensSystem, OpensType}
use Rattle.reach.specs.declared.question.Question.{Question}
use Rattle.reach.specs.declared.question.Question.TheVariants.{Opens, Keeps, System, Seals, Unseals, IsSealed}
use Rattle.reach.specs.Opens.{OpensSome, KeepsSome, OpensUnsealing, IsSealedAs}

-- the first granule from a base on that ends above an address
abbrev pub first_granule : ℕ → ℕ → ℕ
first_granule base address = max ((base + 15) / 16 * 16) (address / 16 * 16)

-- a granule with one of the `size` bytes from an address on lies wholly in the bounds
abbrev pub has_granule : CapValue → ℕ → ℕ → Bool
has_granule c address size =
    nat_lt 0 size
    && (nat_le (first_granule (value_base c) address + 16) (value_top c)
    && nat_lt (first_granule (value_base c) address) (address + size))

-- it answers with yes
abbrev pub Answers : Question → CapValue → Type 0
Answers (Opens right address size) c = OpensSome right c address size
Answers (Keeps address size) c = KeepsSome c address size
Answers System c = OpensSystem c
Answers (Seals otype) c = OpensType c otype
Answers (Unseals otype) c = OpensUnsealing c otype
Answers (IsSealed otype) c = IsSealedAs c otype
