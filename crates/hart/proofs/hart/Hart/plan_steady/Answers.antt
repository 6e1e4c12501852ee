use Rattle.std.proofs.Common.{◌≡◌, ℕ, sym, ap, ◌∙◌}
use Rattle.cap_bounds.specs.CapValue.{CapValue}
use Rattle.isa_rows.specs.Kind.{kind_of}
use Rattle.isa_rows.specs.declared.kinds.Kind.{Kind}
use Rattle.isa_rows.specs.declared.operands.Insn.{Insn}
use Rattle.steps.specs.ComputeRows.{integer_effect, mul_div_effect, capability_effect}
use Rattle.steps.specs.PlainRun.{is_steady}
use Rattle.steps.specs.RowEffects.{load_effect, store_effect, load_capability_effect, store_capability_effect}
use Rattle.steps.specs.Step.{asked, does, kind_effect}
use Rattle.steps.specs.State.{State}
use Rattle.steps.specs.declared.effect.Effect.{Effect}
use Rattle.hart.proofs.hart.Hart.plan_steady.Goals as goal

-- the effect of an instruction is that of its row's kind
of_kind : (k : Kind) (insn : Insn) (s : State) (e : Effect CapValue) → k ≡ kind_of insn.row → ((word : ℕ) → e ≡ kind_effect k word insn s)
    → (word : ℕ) → e ≡ kind_effect (kind_of insn.row) word insn s
of_kind k insn s e kind effect word = effect word ∙ ap (λ j. kind_effect j word insn s) kind

pub returns-in-Integer : goal.returns-in-Integer
unfolding kind_effect asked does integer_effect
returns-in-Integer g c =
    let kind = sym c.in-Integer.is ∙ c.kind.ensures in
    let planned = c.plan_integer.ensures in
    record {
      effect = of_kind _ c.args.insn c.args.self.now _ kind (λ word. planned.effect);
      can = planned.can;
      steady = ap is_steady (sym kind);
    }

pub returns-in-MulDiv : goal.returns-in-MulDiv
unfolding kind_effect asked does mul_div_effect
returns-in-MulDiv g c =
    let kind = sym c.in-MulDiv.is ∙ c.kind.ensures in
    let planned = c.plan_mul_div.ensures in
    record {
      effect = of_kind _ c.args.insn c.args.self.now _ kind (λ word. planned.effect);
      can = planned.can;
      steady = ap is_steady (sym kind);
    }

pub returns-in-Capability : goal.returns-in-Capability
unfolding kind_effect asked does capability_effect
returns-in-Capability g c =
    let kind = sym c.in-Capability.is ∙ c.kind.ensures in
    let planned = c.plan_capability.ensures in
    record {
      effect = of_kind _ c.args.insn c.args.self.now _ kind (λ word. planned.effect);
      can = planned.can;
      steady = ap is_steady (sym kind);
    }

pub returns-in-Load : goal.returns-in-Load
unfolding kind_effect asked does load_effect
returns-in-Load g c =
    let kind = sym c.in-Load.is ∙ c.kind.ensures in
    let planned = c.plan_load.ensures in
    record {
      effect = of_kind _ c.args.insn c.args.self.now _ kind (λ word. planned.effect);
      can = planned.can;
      steady = ap is_steady (sym kind);
    }

pub returns-in-Store : goal.returns-in-Store
unfolding kind_effect asked does store_effect
returns-in-Store g c =
    let kind = sym c.in-Store.is ∙ c.kind.ensures in
    let planned = c.plan_store.ensures in
    record {
      effect = of_kind _ c.args.insn c.args.self.now _ kind (λ word. planned.effect);
      can = planned.can;
      steady = ap is_steady (sym kind);
    }

pub returns-in-LoadCapability : goal.returns-in-LoadCapability
unfolding kind_effect asked does load_capability_effect
returns-in-LoadCapability g c =
    let kind = sym c.in-LoadCapability.is ∙ c.kind.ensures in
    let planned = c.plan_load_capability.ensures in
    record {
      effect = of_kind _ c.args.insn c.args.self.now _ kind (λ word. planned.effect);
      can = planned.can;
      steady = ap is_steady (sym kind);
    }

pub returns-in-StoreCapability : goal.returns-in-StoreCapability
unfolding kind_effect asked does store_capability_effect
returns-in-StoreCapability g c =
    let kind = sym c.in-StoreCapability.is ∙ c.kind.ensures in
    let planned = c.plan_store_capability.ensures in
    record {
      effect = of_kind _ c.args.insn c.args.self.now _ kind (λ word. planned.effect);
      can = planned.can;
      steady = ap is_steady (sym kind);
    }
