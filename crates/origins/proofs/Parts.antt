-- What is made where no instruction writes, and by an effect that some others exclude.
use Rattle.std.proofs.Common.{◌≡◌, ℕ, Bool, eqb, Option, Some, None, false, refl, sym}
use Rattle.std.proofs.lemmas.Bool.{cond-false}
use Rattle.cap_bounds.specs.CapValue.{CapValue}
use Rattle.isa_rows.specs.declared.operands.Insn.{Insn}
use Rattle.steps.specs.Applying.{meant}
use Rattle.steps.specs.Looks.{next_of}
use Rattle.steps.specs.State.{State}
use Rattle.steps.specs.declared.effect.Effect.{Effect}
use Rattle.steps.specs.declared.effect.CsrWrite.{CsrWrite}
use Rattle.steps.specs.declared.effect.Enter.{Enter as Entry}
use Rattle.steps.specs.declared.effect.Link.{Link as Linking}
use Rattle.steps.specs.declared.effect.SpecialWrite.{SpecialWrite}
use Rattle.steps.specs.declared.effect.Effect.TheVariants.{Trap, Nothing, Write, Unseal, Store, StoreCapability, DeviceLoad, DeviceStore}
use Rattle.steps.specs.declared.effect.Effect.TheVariants.{Jump, Link, Enter, Special, Csr, Return}
use Rattle.base.specs.declared.registers.scr.TheConstants.{PCC}
use Rattle.origins.specs.declared.place.Place.TheVariants as place
use Rattle.origins.specs.Made.{other_made, pcc_made, pcc_moved, insn_made, made_by_insn}
use Rattle.origins.specs.Parts.{by_insn}
use Rattle.origins.specs.declared.making.Making.{Making}

pub none-by_insn : (o : Option Insn) (made : Insn → Option Making) → ((insn : Insn) → made insn ≡ None) → None ≡ by_insn o made
none-by_insn (Some insn) made none = sym (none insn)
none-by_insn None made none = refl

pub same-by_insn : (o : Option Insn) (made other : Insn → Option Making) → ((insn : Insn) → made insn ≡ other insn)
    → by_insn o made ≡ by_insn o other
same-by_insn (Some insn) made other same = same insn
same-by_insn None made other same = refl

pub no-other_made : {C : Type 0} (value : C → CapValue) (n : ℕ) (e : Effect C) → ((w : SpecialWrite C) → e ≡ Special w → ⊥)
    → ((w : CsrWrite C) → e ≡ Csr w → ⊥) → (insn : Insn) → other_made n (meant value e) insn ≡ None
no-other_made value n (Special w) special csr insn = absurd (special w refl)
no-other_made value n (Csr w) special csr insn = absurd (csr w refl)
no-other_made value n (Trap fault) special csr insn = refl
no-other_made value n Nothing special csr insn = refl
no-other_made value n (Write w) special csr insn = refl
no-other_made value n (Unseal w) special csr insn = refl
no-other_made value n (Store w) special csr insn = refl
no-other_made value n (StoreCapability w) special csr insn = refl
no-other_made value n (DeviceLoad l) special csr insn = refl
no-other_made value n (DeviceStore w) special csr insn = refl
no-other_made value n (Jump target) special csr insn = refl
no-other_made value n (Link l) special csr insn = refl
no-other_made value n (Enter e) special csr insn = refl
no-other_made value n (Return sealed) special csr insn = refl

pub next-pcc_made : {C : Type 0} (value : C → CapValue) (e : Effect C) (s : State) → ((target : ℕ) → e ≡ Jump target → ⊥)
    → ((l : Linking C) → e ≡ Link l → ⊥) → ((x : Entry C) → e ≡ Enter x → ⊥) → ((sealed : Bool) → e ≡ Return sealed → ⊥)
    → (insn : Insn) → pcc_moved (next_of s) s ≡ pcc_made (meant value e) insn s
next-pcc_made value (Jump target) s jump link enter return insn = absurd (jump target refl)
next-pcc_made value (Link l) s jump link enter return insn = absurd (link l refl)
next-pcc_made value (Enter x) s jump link enter return insn = absurd (enter x refl)
next-pcc_made value (Return sealed) s jump link enter return insn = absurd (return sealed refl)
next-pcc_made value (Trap fault) s jump link enter return insn = refl
next-pcc_made value Nothing s jump link enter return insn = refl
next-pcc_made value (Write w) s jump link enter return insn = refl
next-pcc_made value (Unseal w) s jump link enter return insn = refl
next-pcc_made value (Store w) s jump link enter return insn = refl
next-pcc_made value (StoreCapability w) s jump link enter return insn = refl
next-pcc_made value (DeviceLoad l) s jump link enter return insn = refl
next-pcc_made value (DeviceStore w) s jump link enter return insn = refl
next-pcc_made value (Special w) s jump link enter return insn = refl
next-pcc_made value (Csr w) s jump link enter return insn = refl

pub other-special_made : (o : Option Insn) (n : ℕ) (e : Effect CapValue) (s : State) → eqb n PCC ≡ false
    → by_insn o (λ insn. other_made n e insn) ≡ made_by_insn (place.Special n) e o s
unfolding insn_made
other-special_made (Some insn) n e s other = sym (cond-false (eqb n PCC) (pcc_made e insn s) (other_made n e insn) other)
other-special_made None n e s other = refl
