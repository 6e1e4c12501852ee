-- The counter is confined to its two capabilities, and all that is told apart lies outside them.
use Rattle.std.proofs.Common.{◌≡◌, ◌≢◌, ℕ, zero, suc, ◌+◌, ◌-◌, ◌<◌, ◌≤◌, true, false, ◌⊎◌, inl, inr, [], ◌∷◌, set, length, refl, sym, ap}
use Rattle.std.proofs.Common.{◌∙◌, subst, arith, lit≤}
use Rattle.std.proofs.lemmas.List.{get_or-set_other}
use Rattle.std.proofs.lemmas.Bool.{both_ways, false_from_ne_true}
use Rattle.std.specs.Prelude.{slice_index, slice_index_or, replicate}
use Rattle.std.specs.FinSet as finite
use Rattle.std.specs.Ordering.{nat_cmp}
use Rattle.base.specs.Ram.{ram_base}
use Rattle.cap_bounds.specs.CapValue.{CapValue, is_tagged}
use Rattle.cap_bounds.specs.Record.{encoded}
use Rattle.cap_rights.specs.Permission.{permits}
use Rattle.cap_rights.specs.Rights.{OpensStore, OpensSystem, OpensType}
use Rattle.tagged_memory.specs.Memory.{Memory, has_tag, zeroed, data_written, capability_written}
use Rattle.tagged_memory.specs.MemoryLaws.{tagged-before_data_written, has_tag-capability_written_other}
use Rattle.image.specs.declared.cap_entry.CapEntry.{CapEntry}
use Rattle.registers.specs.Registers.{null, register}
use Rattle.hart.specs.Opening.{entry_record}
use Rattle.authority.specs.Reachable.{IsReachable, from_root, in_pcc, in_ddc}
use Rattle.authority.specs.Confined.{IsConfined, LooksTheSame, Spans}
use Rattle.reach.specs.declared.right.Right.TheVariants.{Execute, Load, Store}
use Rattle.reach.specs.Differs.{DiffersWithin}
use Rattle.reach.specs.First.{HoldsOfNone}
use Rattle.reach.specs.Opens.{IsSealedAs, OpensSome, OpensUnsealing}
use Rattle.reach.specs.Reach.{AreReachable}
use Rattle.worked.specs.Counter.{code, code_capability, counter, data_capability, two_capabilities}

pub nulls : (n k : ℕ) → is_tagged (register (replicate n null) k) ≡ false
nulls zero k = refl
nulls (suc n) zero = refl
nulls (suc n) (suc k) = nulls n k

-- ---- its memory

abbrev entry : CapEntry
entry = record { place = 0x8000_0800; base = 0x8000_0000; length = 0x1000; perms = 0xffff; flag = 0 }

abbrev with_code : Memory
with_code = data_written (zeroed 1) 0x8000_0000 code

abbrev with_secret : ℕ → Memory
with_secret secret = data_written with_code 0x8000_0400 (secret ∷ [])

abbrev with_all : ℕ → Memory
with_all secret = capability_written (with_secret secret) 0x8000_0800 (encoded (entry_record entry)) true

untagged : (secret granule : ℕ) → has_tag (with_secret secret) granule ≡ false
untagged secret granule =
    false_from_ne_true _
    (λ tagged. both_ways _ (finite.contains-empty nat_cmp granule)
    (tagged-before_data_written (zeroed 1) 0x8000_0000 code granule
    (tagged-before_data_written with_code 0x8000_0400 (secret ∷ []) granule tagged)))

-- one granule alone has a tag
elsewhere : (secret granule : ℕ) → (granule ≡ 0x8000_0800 → ⊥) → has_tag (with_all secret) granule ≡ false
elsewhere secret granule other =
    has_tag-capability_written_other (with_secret secret) 0x8000_0800 (encoded (entry_record entry)) true granule other
    ∙ untagged secret granule

-- the secret is one byte of RAM
one-byte : (secret other : ℕ) → (counter other).memory.bytes ≡ set (counter secret).memory.bytes 0x400 other
unfolding counter data_written capability_written
one-byte secret other = refl

pub same-elsewhere : (secret other k : ℕ) → k ≢ 0x400
    → slice_index (counter other).memory.bytes k ≡ slice_index (counter secret).memory.bytes k
same-elsewhere secret other k elsewhere =
    ap (λ bytes. slice_index bytes k) (one-byte secret other) ∙ get_or-set_other (counter secret).memory.bytes 0x400 k other 0 elsewhere

pub same-size : (secret other : ℕ) → length (counter other).memory.bytes ≡ length (counter secret).memory.bytes
unfolding counter data_written capability_written
same-size secret other = refl

-- ---- it is confined

pub confined : (secret : ℕ) → IsConfined (counter secret)
unfolding counter permits
confined secret = record {
  registers = nulls 32;
  narrow = record { stores = refl; code_system = refl; data_system = refl; code_seals = refl; data_seals = refl };
  code_granules = λ granule opens. elsewhere secret granule (λ same. let top : granule + 16 ≤ 0x8000_0100 = opens.top in omega arith);
  data_granules = λ granule opens. elsewhere secret granule (λ same. let top : granule + 16 ≤ 0x8000_0200 = opens.top in omega arith);
  in_ram = lit≤ tt;
}

low-bytes : (a : ℕ) → Spans code_capability a ⊎ Spans data_capability a → a - ram_base ≢ 0x400
low-bytes a (inl spans) = omega (arith, spans.1)
low-bytes a (inr spans) = omega (arith, spans.1)

pub same-looks : (secret other : ℕ) → LooksTheSame (counter secret) (counter other)
unfolding counter
same-looks secret other = record {
  registers = refl;
  pcc = refl;
  ddc = refl;
  csrs = refl;
  devices = refl;
  size = same-size secret other;
  bytes = λ a low spans. same-elsewhere secret other (a - ram_base) (low-bytes a spans);
  tags = λ granule opens. elim opens [
    | inl by_code ↦ (confined other).code_granules granule by_code
    | inr by_data ↦ (confined other).data_granules granule by_data
  ];
}

-- ---- what is reachable in it

-- it is one of the two
abbrev pub IsOne : CapValue → Type 0
IsOne v = (v ≡ code_capability) ⊎ (v ≡ data_capability)

pub one-of : (v : CapValue) (k : ℕ) → k < 2 → slice_index_or two_capabilities k v ≡ v → IsOne v
one-of v zero inside same = inl (sym same)
one-of v (suc zero) inside same = inr (sym same)
one-of v (suc (suc k)) inside same = absurd (omega arith)

held : (secret : ℕ) (v : CapValue) → IsOne v → IsReachable (counter secret) v
unfolding counter
held secret v (inl same) = subst (IsReachable (counter secret)) (sym same) (from_root refl (in_pcc refl))
held secret v (inr same) = subst (IsReachable (counter secret)) (sym same) (from_root refl (in_ddc refl))

pub members : (secret : ℕ) → ((v : CapValue) → IsReachable (counter secret) v → IsOne v)
    → AreReachable (counter secret) two_capabilities
members secret reached = record {
  sound = λ v is. held secret v (one-of v is.0 is.1 is.2);
  complete = λ v reachable. elim (reached v reachable) [
    | inl same ↦ (0, omega arith, sym same)
    | inr same ↦ (1, omega arith, sym same)
  ];
}

-- what neither of the two is, none of them is
none-is : (P : CapValue → Type 0) → (P code_capability → ⊥) → (P data_capability → ⊥) → HoldsOfNone P two_capabilities
none-is P no_code no_data v there is = elim (one-of v there.0 there.1 there.2) [
  | inl same ↦ no_code (subst P same is)
  | inr same ↦ no_data (subst P same is)
]

pub no-store : HoldsOfNone (λ v. OpensSome Store v 0x8000_0400 1) two_capabilities
no-store =
    none-is (λ v. OpensSome Store v 0x8000_0400 1)
    (λ is. let top : is.byte < 0x8000_0100 = is.opens.top in omega (arith, is.low))
    (λ is. let top : is.byte < 0x8000_0200 = is.opens.top in omega (arith, is.low))

pub no-load : HoldsOfNone (λ v. OpensSome Load v 0x8000_0400 1) two_capabilities
no-load =
    none-is (λ v. OpensSome Load v 0x8000_0400 1)
    (λ is. let top : is.byte < 0x8000_0100 = is.opens.top in omega (arith, is.low))
    (λ is. let top : is.byte < 0x8000_0200 = is.opens.top in omega (arith, is.low))

pub no-fetch : HoldsOfNone (λ v. OpensSome Execute v 0x8000_0400 1) two_capabilities
no-fetch =
    none-is (λ v. OpensSome Execute v 0x8000_0400 1)
    (λ is. let top : is.byte < 0x8000_0100 = is.opens.top in omega (arith, is.low))
    (λ is. let top : is.byte < 0x8000_0200 = is.opens.top in omega (arith, is.low))

pub no-device : (address : ℕ) → address < ram_base → HoldsOfNone (λ v. OpensStore v address) two_capabilities
no-device address below =
    none-is (λ v. OpensStore v address) (λ is. let base : ram_base ≤ address = is.base in omega arith)
    (λ is. let base : 0x8000_0100 ≤ address = is.base in omega arith)

pub no-system : HoldsOfNone OpensSystem two_capabilities
unfolding permits
no-system = none-is OpensSystem (λ is. both_ways _ refl is.system) (λ is. both_ways _ refl is.system)

pub no-seal : (otype : ℕ) → HoldsOfNone (λ v. OpensType v otype) two_capabilities
unfolding permits
no-seal otype = none-is (λ v. OpensType v otype) (λ is. both_ways _ refl is.seals) (λ is. both_ways _ refl is.seals)

pub no-unsealing : (otype : ℕ) → HoldsOfNone (λ v. OpensUnsealing v otype) two_capabilities
unfolding permits
no-unsealing otype = none-is (λ v. OpensUnsealing v otype) (λ is. both_ways _ refl is.unseals) (λ is. both_ways _ refl is.unseals)

pub none-sealed : (otype : ℕ) → HoldsOfNone (λ v. IsSealedAs v otype) two_capabilities
none-sealed otype = none-is (λ v. IsSealedAs v otype) (λ is. both_ways _ refl is.sealed) (λ is. both_ways _ refl is.sealed)

elsewhere-byte : (a : ℕ) → ram_base ≤ a → (a < 0x8000_0400) ⊎ (0x8000_0401 ≤ a) → a - ram_base ≢ 0x400
elsewhere-byte a low (inl below) = omega arith
elsewhere-byte a low (inr above) = omega arith

pub differs-within : (secret other : ℕ) → DiffersWithin (counter secret) (counter other) 0x8000_0400 1
unfolding counter data_written capability_written
differs-within secret other = record {
  registers = refl;
  scrs = refl;
  csrs = refl;
  devices = refl;
  ram = same-size secret other;
  tags = λ granule. refl;
  outside = λ a low apart. same-elsewhere secret other (a - ram_base) (elsewhere-byte a low apart);
}
