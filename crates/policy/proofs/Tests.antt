-- The tests mean what policies say.
use Rattle.std.proofs.Common.{◌≡◌, ℕ, ◌+◌, ◌*◌, ◌/◌, ◌%◌, ◌<◌, ◌≤◌, List, [], ◌∷◌, ◌++◌, Option, None, Some, sym, ◌∙◌}
use Rattle.std.proofs.Common.{inl, inr, ◌⊎◌, arith, zero, suc, refl, subst}
use Rattle.std.proofs.lemmas.Bool.{and_from, and_parts, or_cases, or_left, or_right, not-true, not_from_false, cases_lt, cases_Bool}
use Rattle.std.proofs.lemmas.Bool.{iff_false}
use Rattle.std.proofs.lemmas.Bool.{ltb-true, leb-true, leb-false, lt-ltb, le-leb, lt-leb, eqb-true, eq-eqb, true≢false, false≢true}
use Rattle.std.proofs.lemmas.List.Quantifiers.{position-Some}
use Rattle.std.specs.List.{list_all, list_any}
use Rattle.std.specs.Option.{is_some}
use Rattle.std.specs.Prelude.{◌↔◌, ◌&&◌, ◌||◌, ◌==◌, not, nat_le, nat_lt, min, max, Bool, true, false, Contains, MatchOption}
use Rattle.std.specs.Prelude.{length, get_or, option_map, unwrap_or}
use Rattle.base.specs.declared.otype.TheConstants.{FIRST_RESERVED}
use Rattle.base.specs.ObjectType.{is_reserved}
use Rattle.base.specs.Ram.{ram_base}
use Rattle.cap_bounds.specs.CapValue.{CapValue, is_sealed, value_base, value_top, value_otype}
use Rattle.cap_rights.specs.declared.permission.Permission.{Permission}
use Rattle.cap_rights.specs.declared.permission.Permission.TheVariants as permission
use Rattle.cap_rights.specs.Permission.{permits}
use Rattle.cap_rights.specs.Opens.{allows, opens_store, opens_system}
use Rattle.cap_rights.specs.OpensLaws.{allows-parts, allows-from, opens_store-means, opens_system-means}
use Rattle.devices.specs.Devices.{halt, timer, transmit, receive, status, control_register, timer_compare}
use Rattle.devices.specs.Devices.{is_named, is_register, kept_at}
use Rattle.devices.specs.declared.map.TheConstants.{KEPT}
use Rattle.reach.specs.declared.range.Range.{Range}
use Rattle.reach.specs.Opens.{StoresLocals}
use Rattle.reach.specs.Ranges.{IsInOne}
use Rattle.reach.proofs.Determined.{head-in, rest-in, in-cases, none-in}
use Rattle.policy.specs.Terms.{Terms}
use Rattle.policy.specs.declared.rule.Ban.{Ban}
use Rattle.policy.specs.declared.rule.Ban.TheVariants.{Store, Load, Execute, Keep, Enter, Transmit, Halt, Timer, System, Seal, Types}
use Rattle.policy.specs.Cover.{HasGap}
use Rattle.policy.specs.Rule.{Lets, OpensOutside, OpensDevice, KeepsOutside, EntersOutside, OpensSealing, IsSealedBeyond, Breaks, entry}
use Rattle.policy.specs.Opened.{is_enterable}
use Rattle.policy.specs.Watch.{Applies, IsAbout}
use Rattle.policy.specs.Tests.{applies, breaks, is_about, is_in_one, is_sealed_beyond, keeps_outside, leaves_out, opens_outside}
use Rattle.policy.specs.Tests.{enters_outside, has_outside, opens_device, opens_sealing, registers}

-- two tests of one fact
pub same_test : (a b : Bool) {P : Type 0} → ((a ≡ true) ↔ P) → ((b ≡ true) ↔ P) → a ≡ b
same_test a b one other = elim (cases_Bool b) [
  | inl holds ↦ one.1 (other.0 holds) ∙ sym holds
  | inr fails ↦ elim (cases_Bool a) [ inl here ↦ absurd (iff_false other fails (one.0 here)) | inr out ↦ out ∙ sym fails ]
]

-- ---- ranges

one-in : (ranges : List Range) (a : ℕ) → is_in_one ranges a ≡ true → IsInOne ranges a
one-in [] a is = absurd (false≢true is)
one-in (r ∷ rs) a is = elim (or_cases (nat_le r.from a && nat_lt a r.to) (is_in_one rs a) is) [
  | inl here ↦
      let both = and_parts (nat_le r.from a) (nat_lt a r.to) here in
      head-in r rs a (record { low = leb-true r.from a both.0; high = ltb-true a r.to both.1 })
  | inr there ↦ rest-in r rs a (one-in rs a there)
]

in-one : (ranges : List Range) (a : ℕ) → IsInOne ranges a → is_in_one ranges a ≡ true
in-one [] a one = absurd (none-in a one)
in-one (r ∷ rs) a one = elim (in-cases r rs a one) [
  | inl here ↦
      or_left (nat_le r.from a && nat_lt a r.to) (is_in_one rs a)
      (and_from (nat_le r.from a) (nat_lt a r.to) (le-leb r.from a here.low) (lt-ltb a r.to here.high))
  | inr there ↦ or_right (nat_le r.from a && nat_lt a r.to) (is_in_one rs a) (in-one rs a there)
]

pub in-it : (ranges : List Range) (a : ℕ) → (is_in_one ranges a ≡ true) ↔ IsInOne ranges a
in-it ranges a = (one-in ranges a, in-one ranges a)

none-of : (ranges : List Range) (a : ℕ) → not (is_in_one ranges a) ≡ true → IsInOne ranges a → ⊥
none-of ranges a out one = true≢false (sym (in-one ranges a one) ∙ not-true (is_in_one ranges a) out)

of-none : (ranges : List Range) (a : ℕ) → (IsInOne ranges a → ⊥) → not (is_in_one ranges a) ≡ true
of-none ranges a outside = elim (cases_Bool (is_in_one ranges a)) [
  | inl one ↦ absurd (outside (one-in ranges a one))
  | inr out ↦ not_from_false (is_in_one ranges a) out
]

gap-out : (ranges : List Range) (from to : ℕ) → leaves_out ranges from to ≡ true → HasGap ranges from to
gap-out [] from to is = record { address = from; low = omega arith; high = ltb-true from to is; outside = none-in from }
gap-out (r ∷ rs) from to is = elim (or_cases (leaves_out rs from (min to r.from)) (leaves_out rs (max from r.to) to) is) [
  | inl before ↦
      let gap = gap-out rs from (min to r.from) before in
      let low = gap.low in
      let high = gap.high in
      record {
        address = gap.address;
        low = low;
        high = omega arith;
        outside = λ one. elim (in-cases r rs gap.address one) [
          | inl here ↦ let begin = here.low in absurd (omega arith)
          | inr there ↦ gap.outside there
        ];
      }
  | inr behind ↦
      let gap = gap-out rs (max from r.to) to behind in
      let low = gap.low in
      let high = gap.high in
      record {
        address = gap.address;
        low = omega arith;
        high = high;
        outside = λ one. elim (in-cases r rs gap.address one) [
          | inl here ↦ let end = here.high in absurd (omega arith)
          | inr there ↦ gap.outside there
        ];
      }
]

out-gap : (ranges : List Range) (from to a : ℕ) → from ≤ a → a < to → (IsInOne ranges a → ⊥) → leaves_out ranges from to ≡ true
out-gap [] from to a low high outside = lt-ltb from to (omega arith)
out-gap (r ∷ rs) from to a low high outside = elim (cases_lt a r.from) [
  | inl below ↦
      or_left (leaves_out rs from (min to r.from)) (leaves_out rs (max from r.to) to)
      (out-gap rs from (min to r.from) a low (omega arith) (λ one. outside (rest-in r rs a one)))
  | inr begun ↦ elim (cases_lt a r.to) [
    | inl under ↦ absurd (outside (head-in r rs a (record { low = begun; high = under })))
    | inr past ↦
        or_right (leaves_out rs from (min to r.from)) (leaves_out rs (max from r.to) to)
        (out-gap rs (max from r.to) to a (omega arith) high (λ one. outside (rest-in r rs a one)))
  ]
]

-- ---- granules

-- the first granule that begins at an address or above it, and the end of the last that ends at one or below
abbrev pub granules_from : ℕ → ℕ
granules_from base = (base + 15) / 16 * 16

abbrev pub granules_to : ℕ → ℕ
granules_to top = top / 16 * 16

granule-of : (a : ℕ) → (a / 16 * 16 % 16 ≡ 0) × ((a / 16 * 16 ≤ a) × (a < a / 16 * 16 + 16))
granule-of a = (grind arith, (grind arith, grind arith))

granule-begins : (base a : ℕ) → granules_from base ≤ a → base ≤ a / 16 * 16
granule-begins base a low = grind arith

granule-ends : (top a : ℕ) → a < granules_to top → a / 16 * 16 + 16 ≤ top
granule-ends top a high = grind arith

from-granule : (base granule : ℕ) → granule % 16 ≡ 0 → base ≤ granule → granules_from base ≤ granule
from-granule base granule aligned low = grind arith

to-granule : (top granule : ℕ) → granule % 16 ≡ 0 → granule + 16 ≤ top → granule + 16 ≤ granules_to top
to-granule top granule aligned high = grind arith

-- ---- device registers

-- what passes a test is one of those that pass it
among : (test : ℕ → Bool) (a : ℕ) (rs : List ℕ) → list_any (λ r. a == r) rs ≡ true → test a ≡ true → list_any test rs ≡ true
among test a [] is passes = is
among test a (r ∷ rs) is passes = elim (or_cases (a == r) (list_any (λ r. a == r) rs) is) [
  | inl here ↦ or_left (test r) (list_any test rs) (subst (λ x. test x ≡ true) (eqb-true a r here) passes)
  | inr there ↦ or_right (test r) (list_any test rs) (among test a rs there passes)
]

among-more : (test : ℕ → Bool) (rs more : List ℕ) → list_any test rs ≡ true → list_any test (rs ++ more) ≡ true
among-more test [] more is = absurd (false≢true is)
among-more test (r ∷ rs) more is = elim (or_cases (test r) (list_any test rs) is) [
  | inl here ↦ or_left (test r) (list_any test (rs ++ more)) here
  | inr there ↦ or_right (test r) (list_any test (rs ++ more)) (among-more test rs more there)
]

-- a register that only keeps a number is mtimecmp
kept-by : (a : ℕ) (o : Option ℕ) → kept_at a ≡ o → is_some o ≡ true → timer_compare ≡ a
kept-by a None at is = absurd (false≢true is)
kept-by a (Some zero) at is = eqb-true _ _ (position-Some (λ place. place == a) KEPT 0 0 at).1
kept-by a (Some (suc i)) at is =
    let inside : suc i < 1 = (position-Some (λ place. place == a) KEPT (suc i) 0 at).0 in
    absurd (omega (arith, inside))

kept-there : (a : ℕ) → is_some (kept_at a) ≡ true → timer_compare ≡ a
kept-there a is = kept-by a (kept_at a) refl is

register-among : (test : ℕ → Bool) (a : ℕ) → is_register a ≡ true → test a ≡ true → list_any test registers ≡ true
register-among test a is passes = elim (or_cases (is_named a) (is_some (kept_at a)) is) [
  | inl named ↦
      among-more test (halt ∷ timer ∷ transmit ∷ receive ∷ status ∷ control_register ∷ []) (timer_compare ∷ [])
      (among test a (halt ∷ timer ∷ transmit ∷ receive ∷ status ∷ control_register ∷ []) named passes)
  | inr kept ↦
      among test a registers (subst (λ x. list_any (λ r. x == r) registers ≡ true) (kept-there a kept) refl) passes
]

-- ---- capabilities

module _ (c : CapValue) where
  is-let : (p : Permission) → (allows p c ≡ true) ↔ Lets p c
  is-let p = (
    λ is. let both = allows-parts c p is in record { unsealed = both.0; permitted = both.1 },
    λ let_it. allows-from c p let_it.unsealed let_it.permitted,
  )

  is-outside : (p : Permission) (ranges : List Range) → (opens_outside p ranges c ≡ true) ↔ OpensOutside p ranges c
  is-outside p ranges = (
    λ is.
        let both = and_parts (allows p c) (leaves_out ranges (max (value_base c) ram_base) (value_top c)) is in
        let gap = gap-out ranges (max (value_base c) ram_base) (value_top c) both.1 in
        let low = gap.low in
        record {
          byte = gap.address;
          in_ram = omega arith;
          outside = gap.outside;
          lets = (is-let p).0 both.0;
          base = omega arith;
          top = gap.high;
        },
    λ opens.
        let base = opens.base in
        let ram = opens.in_ram in
        and_from (allows p c) (leaves_out ranges (max (value_base c) ram_base) (value_top c)) ((is-let p).1 opens.lets)
        (out-gap ranges (max (value_base c) ram_base) (value_top c) opens.byte (omega arith) opens.top opens.outside),
  )

  -- an address that is left out
  left-out : (ranges : List Range) (a : ℕ) → has_outside ranges c a ≡ true
      → (value_base c ≤ a) × (a < value_top c) × (IsInOne ranges a → ⊥)
  left-out ranges a is =
      let both = and_parts (nat_le (value_base c) a && nat_lt a (value_top c)) (not (is_in_one ranges a)) is in
      let bounds = and_parts (nat_le (value_base c) a) (nat_lt a (value_top c)) both.0 in (
        leb-true (value_base c) a bounds.0,
        ltb-true a (value_top c) bounds.1,
        none-of ranges a both.1,
      )

  out-left : (ranges : List Range) (a : ℕ) → value_base c ≤ a → a < value_top c → (IsInOne ranges a → ⊥) → has_outside ranges c a ≡ true
  out-left ranges a base top outside =
      and_from (nat_le (value_base c) a && nat_lt a (value_top c)) (not (is_in_one ranges a))
      (and_from (nat_le (value_base c) a) (nat_lt a (value_top c)) (le-leb (value_base c) a base) (lt-ltb a (value_top c) top))
      (of-none ranges a outside)

  device-in : (p : Permission) (ranges : List Range) → allows p c ≡ true → (rs : List ℕ) → list_all is_register rs ≡ true
      → list_any (has_outside ranges c) rs ≡ true → OpensDevice p ranges c
  device-in p ranges may [] all is = absurd (false≢true is)
  device-in p ranges may (r ∷ rs) all is =
      let each = and_parts (is_register r) (list_all is_register rs) all in
      elim (or_cases (has_outside ranges c r) (list_any (has_outside ranges c) rs) is) [
        | inl here ↦
            let out = left-out ranges r here in
            record { register = r; answers = each.0; outside = out.2; lets = (is-let p).0 may; base = out.0; top = out.1 }
        | inr there ↦ device-in p ranges may rs each.1 there
      ]

  pub is-device : (p : Permission) (ranges : List Range) → (opens_device p ranges c ≡ true) ↔ OpensDevice p ranges c
  is-device p ranges = (
    λ is.
        let both = and_parts (allows p c) (list_any (has_outside ranges c) registers) is in
        device-in p ranges both.0 registers refl both.1,
    λ opens.
        and_from (allows p c) (list_any (has_outside ranges c) registers) ((is-let p).1 opens.lets)
        (register-among (has_outside ranges c) opens.register opens.answers
        (out-left ranges opens.register opens.base opens.top opens.outside)),
  )

  is-used : (p : Permission) (ranges : List Range)
      → ((opens_outside p ranges c || opens_device p ranges c) ≡ true) ↔ (OpensOutside p ranges c ⊎ OpensDevice p ranges c)
  is-used p ranges = (
    λ is. elim (or_cases (opens_outside p ranges c) (opens_device p ranges c) is) [
      | inl memory ↦ inl ((is-outside p ranges).0 memory)
      | inr device ↦ inr ((is-device p ranges).0 device)
    ],
    λ uses. elim uses [
      | inl memory ↦ or_left (opens_outside p ranges c) (opens_device p ranges c) ((is-outside p ranges).1 memory)
      | inr device ↦ or_right (opens_outside p ranges c) (opens_device p ranges c) ((is-device p ranges).1 device)
    ],
  )

  abbrev pub first : ℕ
  first = granules_from (max (value_base c) ram_base)

  abbrev pub end : ℕ
  end = granules_to (value_top c)

  -- a byte that is left out lies in a granule of the bounds
  pub gap-keeps : (ranges : List Range) → HasGap ranges first end → StoresLocals c → KeepsOutside ranges c
  gap-keeps ranges gap stores =
      let granule = granule-of gap.address in
      let begins = granule-begins (max (value_base c) ram_base) gap.address gap.low in
      record {
        granule = gap.address / 16 * 16;
        byte = gap.address;
        aligned = granule.0;
        in_ram = omega arith;
        from = granule.1.0;
        to = granule.1.1;
        outside = gap.outside;
        opens = record {
          store = record {
            unsealed = stores.unsealed;
            stores = stores.stores;
            capabilities = stores.capabilities;
            base = omega arith;
            top = granule-ends (value_top c) gap.address gap.high;
          };
          locals = stores.locals;
        };
      }

  -- and where none is left out there is none
  pub keeps-stores : (ranges : List Range) → KeepsOutside ranges c → StoresLocals c
  keeps-stores ranges keeps = record {
    unsealed = keeps.opens.store.unsealed;
    stores = keeps.opens.store.stores;
    capabilities = keeps.opens.store.capabilities;
    locals = keeps.opens.locals;
  }

  pub none-keeps : (ranges : List Range) → ((a : ℕ) → first ≤ a → a < end → IsInOne ranges a) → KeepsOutside ranges c → ⊥
  none-keeps ranges all keeps =
      let base = keeps.opens.store.base in
      let ram = keeps.in_ram in
      let from = keeps.from in
      let to = keeps.to in
      let low = from-granule (max (value_base c) ram_base) keeps.granule keeps.aligned (omega arith) in
      let high = to-granule (value_top c) keeps.granule keeps.aligned keeps.opens.store.top in
      keeps.outside (all keeps.byte (omega arith) (omega arith))

  keeps-by : (ranges : List Range) → keeps_outside ranges c ≡ true → KeepsOutside ranges c
  keeps-by ranges is =
      let stores = and_parts (allows permission.Store c) _ is in
      let capabilities = and_parts (permits c permission.StoreCapability) _ stores.1 in
      let locals = and_parts (permits c permission.StoreLocalCapability) (leaves_out ranges first end) capabilities.1 in
      let let_it = (is-let permission.Store).0 stores.0 in
      gap-keeps ranges (gap-out ranges first end locals.1) (record {
        unsealed = let_it.unsealed;
        stores = let_it.permitted;
        capabilities = capabilities.0;
        locals = locals.0;
      })

  by-keeps : (ranges : List Range) → KeepsOutside ranges c → keeps_outside ranges c ≡ true
  by-keeps ranges keeps =
      let base = keeps.opens.store.base in
      let ram = keeps.in_ram in
      let from = keeps.from in
      let to = keeps.to in
      let low = from-granule (max (value_base c) ram_base) keeps.granule keeps.aligned (omega arith) in
      let high = to-granule (value_top c) keeps.granule keeps.aligned keeps.opens.store.top in
      and_from (allows permission.Store c) _
      ((is-let permission.Store).1 (record { unsealed = keeps.opens.store.unsealed; permitted = keeps.opens.store.stores }))
      (and_from (permits c permission.StoreCapability) _ keeps.opens.store.capabilities
      (and_from (permits c permission.StoreLocalCapability) (leaves_out ranges first end) keeps.opens.locals
      (out-gap ranges first end keeps.byte (omega arith) (omega arith) keeps.outside)))

  permitted-by : (opens_sealing c ≡ true) → OpensSealing c
  permitted-by is =
      let end = min (value_top c) FIRST_RESERVED in
      let both = and_parts (allows permission.Seal c || allows permission.Unseal c) (nat_lt (value_base c) end) is in
      let below = ltb-true (value_base c) end both.1 in
      elim (or_cases (allows permission.Seal c) (allows permission.Unseal c) both.0) [
        | inl seals ↦
            let let_it = (is-let permission.Seal).0 seals in
            record {
              otype = value_base c;
              unreserved = lt-leb FIRST_RESERVED (value_base c) (omega arith);
              unsealed = let_it.unsealed;
              permitted = inl let_it.permitted;
              base = omega arith;
              top = omega arith;
            }
        | inr unseals ↦
            let let_it = (is-let permission.Unseal).0 unseals in
            record {
              otype = value_base c;
              unreserved = lt-leb FIRST_RESERVED (value_base c) (omega arith);
              unsealed = let_it.unsealed;
              permitted = inr let_it.permitted;
              base = omega arith;
              top = omega arith;
            }
      ]

  is-sealing : (opens_sealing c ≡ true) ↔ OpensSealing c
  is-sealing = (
    permitted-by,
    λ opens.
        let base = opens.base in
        let top = opens.top in
        let free = leb-false FIRST_RESERVED opens.otype opens.unreserved in
        and_from (allows permission.Seal c || allows permission.Unseal c) (nat_lt (value_base c) (min (value_top c) FIRST_RESERVED))
        (elim opens.permitted [
          | inl seals ↦
              or_left (allows permission.Seal c) (allows permission.Unseal c)
              ((is-let permission.Seal).1 (record { unsealed = opens.unsealed; permitted = seals }))
          | inr unseals ↦
              or_right (allows permission.Seal c) (allows permission.Unseal c)
              ((is-let permission.Unseal).1 (record { unsealed = opens.unsealed; permitted = unseals }))
        ])
        (lt-ltb (value_base c) (min (value_top c) FIRST_RESERVED) (omega arith)),
  )

  pub is-entering : (enter execute : List Range) → (enters_outside enter execute c ≡ true) ↔ EntersOutside enter execute c
  is-entering enter execute = (
    λ is.
        let both = and_parts (is_enterable c) (not (is_in_one enter (entry c)) && not (is_in_one execute (entry c))) is in
        let out = and_parts (not (is_in_one enter (entry c))) (not (is_in_one execute (entry c))) both.1 in
        let sealed = and_parts (is_sealed c) _ both.0 in
        let executes = and_parts (permits c permission.Execute) _ sealed.1 in
        let in_ram = and_parts (nat_le ram_base (entry c)) _ executes.1 in
        let bounds = and_parts (nat_le (value_base c) (entry c)) (nat_le (entry c + 4) (value_top c)) in_ram.1 in
        record {
          sealed = sealed.0;
          executes = executes.0;
          in_ram = leb-true ram_base (entry c) in_ram.0;
          base = leb-true (value_base c) (entry c) bounds.0;
          top = leb-true (entry c + 4) (value_top c) bounds.1;
          not_entered = none-of enter (entry c) out.0;
          not_fetched = none-of execute (entry c) out.1;
        },
    λ enters.
        and_from (is_enterable c) (not (is_in_one enter (entry c)) && not (is_in_one execute (entry c)))
        (and_from (is_sealed c) _ enters.sealed
        (and_from (permits c permission.Execute) _ enters.executes
        (and_from (nat_le ram_base (entry c)) _ (le-leb ram_base (entry c) enters.in_ram)
        (and_from (nat_le (value_base c) (entry c)) (nat_le (entry c + 4) (value_top c)) (le-leb (value_base c) (entry c) enters.base)
        (le-leb (entry c + 4) (value_top c) enters.top)))))
        (and_from (not (is_in_one enter (entry c))) (not (is_in_one execute (entry c))) (of-none enter (entry c) enters.not_entered)
        (of-none execute (entry c) enters.not_fetched)),
  )

  pub any-there : (types : List ℕ) (otype : ℕ) → list_any (λ t. t == otype) types ≡ true → Contains types otype
  any-there [] otype is = absurd (false≢true is)
  any-there (t ∷ ts) otype is = elim (or_cases (t == otype) (list_any (λ t. t == otype) ts) is) [
    | inl here ↦ (0, omega arith, eqb-true t otype here)
    | inr there ↦ let at = any-there ts otype there in (suc at.0, omega (arith, at.1), at.2)
  ]

  pub there-any : (types : List ℕ) (otype k : ℕ) → k < length types → get_or types k otype ≡ otype → list_any (λ t. t == otype) types ≡ true
  there-any [] otype k below at = absurd (omega arith)
  there-any (t ∷ ts) otype zero below at = or_left (t == otype) (list_any (λ t. t == otype) ts) (eq-eqb t otype at)
  there-any (t ∷ ts) otype (suc k) below at =
      or_right (t == otype) (list_any (λ t. t == otype) ts) (there-any ts otype k (omega arith) at)

  is-beyond : (types : List ℕ) → (is_sealed_beyond types c ≡ true) ↔ IsSealedBeyond types c
  is-beyond types =
      let otype = value_otype c in
      let one = list_any (λ t. t == otype) types in (
        λ is.
            let both = and_parts (is_sealed c) (not (is_reserved otype) && not one) is in
            let free = and_parts (not (is_reserved otype)) (not one) both.1 in
            record {
              sealed = both.0;
              unreserved = not-true (is_reserved otype) free.0;
              beyond = λ there.
                  true≢false (sym (there-any types otype there.0 there.1 there.2) ∙ not-true one free.1);
            },
        λ beyond.
            and_from (is_sealed c) (not (is_reserved otype) && not one) beyond.sealed
            (and_from (not (is_reserved otype)) (not one) (not_from_false (is_reserved otype) beyond.unreserved)
            (elim (cases_Bool one) [
              | inl there ↦ absurd (beyond.beyond (any-there types otype there))
              | inr out ↦ not_from_false one out
            ])),
      )

  no-type : (o : Option (List ℕ))
      → (unwrap_or (option_map (λ types. is_sealed_beyond types c) o) false ≡ true) ↔ MatchOption o ⊥ (λ types. IsSealedBeyond types c)
  no-type None = (λ is. false≢true is, λ none. absurd none)
  no-type (Some types) = is-beyond types

  -- where a rule says no
  is-banned : (let_it test : Bool) {P : Type 0} → ((test ≡ true) ↔ P) → ((not let_it && test) ≡ true) ↔ ((let_it ≡ false) × P)
  is-banned let_it test means = (
    λ is. let both = and_parts (not let_it) test is in (not-true let_it both.0, means.0 both.1),
    λ broken. and_from (not let_it) test (not_from_false let_it broken.0) (means.1 broken.1),
  )

  module _ (rule : Terms) where
    pub is-break : (ban : Ban) → (breaks rule ban c ≡ true) ↔ Breaks rule ban c
    unfolding breaks
    is-break Store = is-used permission.Store rule.store
    is-break Load = is-used permission.Load rule.load
    is-break Execute = is-outside permission.Execute rule.execute
    is-break Keep = (keeps-by rule.keep, by-keeps rule.keep)
    is-break Enter = is-entering rule.enter rule.execute
    is-break Transmit = is-banned rule.transmit (opens_store transmit c) (opens_store-means c transmit)
    is-break Halt = is-banned rule.halt (opens_store halt c) (opens_store-means c halt)
    is-break Timer = is-banned rule.timer (opens_store timer_compare c) (opens_store-means c timer_compare)
    is-break System = is-banned rule.system (opens_system c) (opens_system-means c)
    is-break Seal = is-banned rule.seal (opens_sealing c) is-sealing
    is-break Types = no-type rule.types

pub about-it : (rule : Terms) (pc : ℕ) → (is_about rule pc ≡ true) ↔ IsAbout rule pc
unfolding is_about
about-it rule pc = (one-in rule.code pc, in-one rule.code pc)

pub applies-it : (rule : Terms) (at : Option ℕ) → (applies rule at ≡ true) ↔ Applies rule at
unfolding applies
applies-it rule None = (λ no. absurd (false≢true no), λ no. absurd no)
applies-it rule (Some pc) = about-it rule pc
