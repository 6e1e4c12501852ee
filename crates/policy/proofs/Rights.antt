-- What breaks a rule is broken by whatever has its rights; so a rule that holds goes on holding over plain events, unless new seals may
-- break it.
use Rattle.std.proofs.Common.{◌≡◌, ℕ, true, false, List, Option, None, Some, refl, arith, subst, inl, inr, ◌⊎◌}
use Rattle.std.proofs.lemmas.Bool.{cases_Bool, true≢false}
use Rattle.std.specs.Prelude.{MatchOption, IsNone}
use Rattle.base.specs.ObjectType.{is_reserved}
use Rattle.cap_bounds.specs.CapValue.{CapValue, is_sealed, value_otype}
use Rattle.cap_rights.specs.declared.permission.Permission.{Permission}
use Rattle.cap_rights.specs.declared.permission.Permission.TheVariants as permission
use Rattle.cap_rights.specs.Permission.{permits}
use Rattle.cap_rights.specs.Rights.{IsInRightsOf, OpensType}
use Rattle.cap_rights.specs.RightsLaws.{permits-outer, unsealed-outer, OpensStore-outer, OpensKeeping-outer, OpensSystem-outer}
use Rattle.cap_rights.specs.Within.{IsWithin}
use Rattle.devices.specs.Devices.{halt, timer_compare, transmit}
use Rattle.steps.specs.declared.event.Event.{Event}
use Rattle.steps.specs.Event.{after, outcome}
use Rattle.steps.specs.IsState.{IsState}
use Rattle.steps.specs.Outcome.{Plain}
use Rattle.steps.specs.State.{State}
use Rattle.authority.specs.Authority.{IsSealAllowed, held, sentry, sealed_by}
use Rattle.authority.specs.Grounded.{IsGrounded}
use Rattle.authority.specs.Reachable.{IsReachable}
use Rattle.authority.specs.StepLaws.{event-grows_not}
use Rattle.reach.specs.declared.range.Range.{Range}
use Rattle.policy.specs.Terms.{Terms}
use Rattle.policy.specs.declared.rule.Ban.{Ban}
use Rattle.policy.specs.declared.rule.Ban.TheVariants as ban
use Rattle.policy.specs.Rule.{Lets, OpensOutside, OpensDevice, KeepsOutside, EntersOutside, OpensSealing, IsSealedBeyond}
use Rattle.policy.specs.Rule.{entry, Breaks, BreaksRule}
use Rattle.policy.specs.Watch.{Holds}
use Rattle.policy.specs.Known.{IsLasting}

module _ (v c : CapValue) (within : IsInRightsOf v c) where
  lets-outer : (permission : Permission) → Lets permission v → Lets permission c
  lets-outer permission lets =
      let both = unsealed-outer v c lets.unsealed within in
      record { unsealed = both.0; permitted = permits-outer v c permission both.1 lets.permitted }

  outside-outer : (permission : Permission) (ranges : List Range) → OpensOutside permission ranges v → OpensOutside permission ranges c
  outside-outer permission ranges opens =
      let both = unsealed-outer v c opens.lets.unsealed within in
      let base = both.1.base in
      let top = both.1.top in
      let low = opens.base in
      let high = opens.top in
      record {
        byte = opens.byte;
        in_ram = opens.in_ram;
        outside = opens.outside;
        lets = lets-outer permission opens.lets;
        base = omega arith;
        top = omega arith;
      }

  device-outer : (permission : Permission) (ranges : List Range) → OpensDevice permission ranges v → OpensDevice permission ranges c
  device-outer permission ranges opens =
      let both = unsealed-outer v c opens.lets.unsealed within in
      let base = both.1.base in
      let top = both.1.top in
      let low = opens.base in
      let high = opens.top in
      record {
        register = opens.register;
        answers = opens.answers;
        outside = opens.outside;
        lets = lets-outer permission opens.lets;
        base = omega arith;
        top = omega arith;
      }

  uses-outer : (permission : Permission) (ranges : List Range)
      → OpensOutside permission ranges v ⊎ OpensDevice permission ranges v
      → OpensOutside permission ranges c ⊎ OpensDevice permission ranges c
  uses-outer permission ranges (inl memory) = inl (outside-outer permission ranges memory)
  uses-outer permission ranges (inr device) = inr (device-outer permission ranges device)

  keeping-outer : (ranges : List Range) → KeepsOutside ranges v → KeepsOutside ranges c
  keeping-outer ranges keeps = record {
    granule = keeps.granule;
    byte = keeps.byte;
    aligned = keeps.aligned;
    in_ram = keeps.in_ram;
    from = keeps.from;
    to = keeps.to;
    outside = keeps.outside;
    opens = OpensKeeping-outer v c keeps.granule within keeps.opens;
  }

  permitted-outer : IsWithin v c → (permits v permission.Seal ≡ true) ⊎ (permits v permission.Unseal ≡ true)
      → (permits c permission.Seal ≡ true) ⊎ (permits c permission.Unseal ≡ true)
  permitted-outer inside (inl seals) = inl (permits-outer v c permission.Seal inside seals)
  permitted-outer inside (inr unseals) = inr (permits-outer v c permission.Unseal inside unseals)

  sealing-outer : OpensSealing v → OpensSealing c
  sealing-outer opens =
      let both = unsealed-outer v c opens.unsealed within in
      let base = both.1.base in
      let top = both.1.top in
      let low = opens.base in
      let high = opens.top in
      record {
        otype = opens.otype;
        unreserved = opens.unreserved;
        unsealed = both.0;
        permitted = permitted-outer both.1 opens.permitted;
        base = omega arith;
        top = omega arith;
      }

  -- sealed it is that value; else its fetches reach where the seal leads
  entering-outer : (enter execute : List Range) → EntersOutside enter execute v
      → EntersOutside enter execute c ⊎ OpensOutside permission.Execute execute c
  entering-outer enter execute enters = elim (cases_Bool (is_sealed c)) [
    | inl sealed ↦ inl (subst (EntersOutside enter execute) (within.of_sealed sealed) enters)
    | inr unsealed ↦
        let inside = within.of_unsealed unsealed in
        let base = inside.base in
        let top = inside.top in
        let low = enters.base in
        let high = enters.top in
        inr (record {
          byte = entry v;
          in_ram = enters.in_ram;
          outside = enters.not_fetched;
          lets = record { unsealed = unsealed; permitted = permits-outer v c permission.Execute inside enters.executes };
          base = omega arith;
          top = omega arith;
        })
  ]

  enters-breaks : (rule : Terms) → EntersOutside rule.enter rule.execute v → BreaksRule rule c
  enters-breaks rule enters = elim (entering-outer rule.enter rule.execute enters) [
    | inl same ↦ record { ban = ban.Enter; breaks = same }
    | inr fetches ↦ record { ban = ban.Execute; breaks = fetches }
  ]

  -- the capability breaks the rule if the value breaks a part of it other than that of types
  pub breaks-outer : (rule : Terms) (part : Ban) → Breaks rule part v → BreaksRule rule c ⊎ (part ≡ ban.Types)
  breaks-outer rule ban.Store broken = inl (record { ban = ban.Store; breaks = uses-outer permission.Store rule.store broken })
  breaks-outer rule ban.Load broken = inl (record { ban = ban.Load; breaks = uses-outer permission.Load rule.load broken })
  breaks-outer rule ban.Execute broken = inl (record { ban = ban.Execute; breaks = outside-outer permission.Execute rule.execute broken })
  breaks-outer rule ban.Keep broken = inl (record { ban = ban.Keep; breaks = keeping-outer rule.keep broken })
  breaks-outer rule ban.Enter broken = inl (enters-breaks rule broken)
  breaks-outer rule ban.Transmit broken =
      inl (record { ban = ban.Transmit; breaks = (broken.0, OpensStore-outer v c transmit within broken.1) })
  breaks-outer rule ban.Halt broken = inl (record { ban = ban.Halt; breaks = (broken.0, OpensStore-outer v c halt within broken.1) })
  breaks-outer rule ban.Timer broken =
      inl (record { ban = ban.Timer; breaks = (broken.0, OpensStore-outer v c timer_compare within broken.1) })
  breaks-outer rule ban.System broken = inl (record { ban = ban.System; breaks = (broken.0, OpensSystem-outer v c within broken.1) })
  breaks-outer rule ban.Seal broken = inl (record { ban = ban.Seal; breaks = (broken.0, sealing-outer broken.1) })
  breaks-outer rule ban.Types broken = inr refl

-- ---- seals

execute-types : ban.Execute ≡ ban.Types → ⊥
execute-types is = cc

pub beyond-sealed : (v : CapValue) (o : Option (List ℕ)) → MatchOption o ⊥ (λ types. IsSealedBeyond types v)
    → (is_sealed v ≡ true) × (is_reserved (value_otype v) ≡ false)
beyond-sealed v None broken = absurd broken
beyond-sealed v (Some types) broken = (broken.sealed, broken.unreserved)

no-types : (v : CapValue) (o : Option (List ℕ)) → IsNone o → MatchOption o ⊥ (λ types. IsSealedBeyond types v) → ⊥
no-types v None none broken = broken
no-types v (Some types) none broken = true≢false none

module _ (rule : Terms) (s : State) (holds : Holds rule s) where
  -- an authority that may seal with an object type that is not reserved
  pub seal-breaks : (v c : CapValue) → rule.seal ≡ false → is_reserved (value_otype v) ≡ false → IsReachable s c
      → OpensType c (value_otype v) → ⊥
  seal-breaks v c none free reachable opens = holds c reachable (record {
    ban = ban.Seal;
    breaks = (
      none,
      record {
        otype = value_otype v;
        unreserved = free;
        unsealed = opens.unsealed;
        permitted = inl opens.seals;
        base = opens.base;
        top = opens.top;
      },
    );
  })

  -- a seal that is allowed in code that may not seal
  allowed-seal : (v : CapValue) → rule.seal ≡ false → is_reserved (value_otype v) ≡ false → Breaks rule ban.Types v → IsSealAllowed s v → ⊥
  allowed-seal v none free broken (held reachable) = holds v reachable (record { ban = ban.Types; breaks = broken })
  allowed-seal v none free broken (sentry same) = true≢false (subst (λ o. is_reserved o ≡ false) same free)
  allowed-seal v none free broken (sealed_by c reachable opens) = seal-breaks v c none free reachable opens

  keeps-types : (v : CapValue) → IsLasting rule → IsGrounded s v → Breaks rule ban.Types v → ⊥
  keeps-types v (inl none) earned broken =
      let both = beyond-sealed v rule.types broken in
      allowed-seal v none both.1 broken (earned.seal both.0)
  keeps-types v (inr none) earned broken = no-types v rule.types none broken

  module _ (v : CapValue) (earned : IsGrounded s v) where
    of_source : BreaksRule rule earned.covered.source → ⊥
    of_source = holds earned.covered.source earned.covered.reachable

    keeps-each : (part : Ban) → IsLasting rule → Breaks rule part v → ⊥
    keeps-each part lasting broken =
        elim (breaks-outer v earned.covered.source earned.covered.within rule part broken) [
          | inl outer ↦ of_source outer
          | inr is ↦ keeps-types v lasting earned (subst (λ other. Breaks rule other v) is broken)
        ]

  -- what is grounded opens no fetch that the rule doesn't
  pub keeps-execute : (v : CapValue) → IsGrounded s v → Breaks rule ban.Execute v → ⊥
  keeps-execute v earned broken =
      elim (breaks-outer v earned.covered.source earned.covered.within rule ban.Execute broken) [
        | inl outer ↦ of_source v earned outer
        | inr is ↦ absurd (execute-types is)
      ]

  -- what is grounded where a lasting rule holds keeps the rule
  pub keeps-grounded : IsLasting rule → (v : CapValue) → IsGrounded s v → BreaksRule rule v → ⊥
  keeps-grounded lasting v earned broken = keeps-each v earned broken.ban lasting broken.breaks

pub holds-after : (rule : Terms) (s : State) (e : Event) → IsState s → outcome e s ≡ Plain → IsLasting rule → Holds rule s
    → Holds rule (after e s)
holds-after rule s e is plain lasting holds = λ v reachable.
    keeps-grounded rule s holds lasting v ((event-grows_not s is e plain).grounded v reachable)
