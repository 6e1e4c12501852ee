use Rattle.std.proofs.Common.{◌≡◌, ℕ, rules, sym, ap, ◌∙◌}
use Rattle.cap_bounds.specs.CapValue.{CapValue}
use Rattle.isa_rows.specs.Kind.{kind_of}
use Rattle.isa_rows.specs.declared.kinds.Kind.{Kind}
use Rattle.isa_rows.specs.declared.operands.Insn.{Insn}
use Rattle.steps.specs.Applying.{CanApply}
use Rattle.steps.specs.Step.{asked, does, kind_effect}
use Rattle.steps.specs.RowEffects.{branch_effect, link_effect, enter_effect, jalr_effect, invoke_effect, load_effect, store_effect}
use Rattle.steps.specs.RowEffects.{load_capability_effect, store_capability_effect, csr_effect, special_effect, return_effect}
use Rattle.steps.specs.declared.effect.Effect.{Effect}
use Rattle.steps.specs.State.{State}
use Rattle.hart.proofs.hart.Hart.plan.Goals as goal

-- the effect of an instruction is that of its row's kind
of_kind : (k : Kind) (word : ℕ) (insn : Insn) (s : State) (e : Effect CapValue) → e ≡ kind_effect k word insn s → k ≡ kind_of insn.row
    → e ≡ kind_effect (kind_of insn.row) word insn s
of_kind k word insn s e planned kind = planned ∙ ap (λ j. kind_effect j word insn s) kind

pub plan_integer-requires : goal.plan_integer-requires
plan_integer-requires g c = (search rules, (sym c.kind.ensures ∙ c.in-Integer.is, c.requires.registers))

pub plan_mul_div-requires : goal.plan_mul_div-requires
plan_mul_div-requires g c = (search rules, (sym c.kind.ensures ∙ c.in-MulDiv.is, c.requires.registers))

pub plan_capability-requires : goal.plan_capability-requires
plan_capability-requires g c = (search rules, (sym c.kind.ensures ∙ c.in-Capability.is, c.requires.registers))

pub returns-in-Integer : goal.returns-in-Integer
unfolding kind_effect asked does
returns-in-Integer g c = record {
  effect = of_kind _ c.args.word c.args.insn c.args.self.now _ c.plan_integer.ensures.effect (sym c.in-Integer.is ∙ c.kind.ensures);
  can = c.plan_integer.ensures.can;
}

pub returns-in-MulDiv : goal.returns-in-MulDiv
unfolding kind_effect asked does
returns-in-MulDiv g c = record {
  effect = of_kind _ c.args.word c.args.insn c.args.self.now _ c.plan_mul_div.ensures.effect (sym c.in-MulDiv.is ∙ c.kind.ensures);
  can = c.plan_mul_div.ensures.can;
}

pub returns-in-Capability : goal.returns-in-Capability
unfolding kind_effect asked does
returns-in-Capability g c = record {
  effect = of_kind _ c.args.word c.args.insn c.args.self.now _ c.plan_capability.ensures.effect (sym c.in-Capability.is ∙ c.kind.ensures);
  can = c.plan_capability.ensures.can;
}

pub returns-in-Auipc : goal.returns-in-Auipc
unfolding kind_effect asked does
returns-in-Auipc g c = record {
  effect = of_kind _ c.args.word c.args.insn c.args.self.now _ c.plan_auipc.ensures.effect (sym c.in-Auipc.is ∙ c.kind.ensures);
  can = c.plan_auipc.ensures.can;
}

pub returns-in-Branch : goal.returns-in-Branch
unfolding kind_effect asked does branch_effect
returns-in-Branch g c = record {
  effect = of_kind _ c.args.word c.args.insn c.args.self.now _ c.plan_branch.ensures.effect (sym c.in-Branch.is ∙ c.kind.ensures);
  can = c.plan_branch.ensures.can;
}

pub returns-in-Jal : goal.returns-in-Jal
unfolding kind_effect asked does link_effect
returns-in-Jal g c = record {
  effect = of_kind _ c.args.word c.args.insn c.args.self.now _ c.plan_jal.ensures.effect (sym c.in-Jal.is ∙ c.kind.ensures);
  can = c.plan_jal.ensures.can;
}

pub returns-in-Jalr : goal.returns-in-Jalr
unfolding kind_effect asked does jalr_effect
returns-in-Jalr g c = record {
  effect = of_kind _ c.args.word c.args.insn c.args.self.now _ c.plan_jalr.ensures.effect (sym c.in-Jalr.is ∙ c.kind.ensures);
  can = c.plan_jalr.ensures.can;
}

pub returns-in-JalrCap : goal.returns-in-JalrCap
unfolding kind_effect asked does enter_effect
returns-in-JalrCap g c = record {
  effect = of_kind _ c.args.word c.args.insn c.args.self.now _ c.plan_enter.ensures.effect (sym c.in-JalrCap.is ∙ c.kind.ensures);
  can = c.plan_enter.ensures.can;
}

pub returns-in-Invoke : goal.returns-in-Invoke
unfolding kind_effect asked does invoke_effect
returns-in-Invoke g c = record {
  effect = of_kind _ c.args.word c.args.insn c.args.self.now _ c.plan_invoke.ensures.effect (sym c.in-Invoke.is ∙ c.kind.ensures);
  can = c.plan_invoke.ensures.can;
}

pub returns-in-Load : goal.returns-in-Load
unfolding kind_effect asked does load_effect
returns-in-Load g c = record {
  effect = of_kind _ c.args.word c.args.insn c.args.self.now _ c.plan_load.ensures.effect (sym c.in-Load.is ∙ c.kind.ensures);
  can = c.plan_load.ensures.can;
}

pub returns-in-Store : goal.returns-in-Store
unfolding kind_effect asked does store_effect
returns-in-Store g c = record {
  effect = of_kind _ c.args.word c.args.insn c.args.self.now _ c.plan_store.ensures.effect (sym c.in-Store.is ∙ c.kind.ensures);
  can = c.plan_store.ensures.can;
}

pub returns-in-LoadCapability : goal.returns-in-LoadCapability
unfolding kind_effect asked does load_capability_effect
returns-in-LoadCapability g c =
    let kind = sym c.in-LoadCapability.is ∙ c.kind.ensures in record {
      effect = of_kind _ c.args.word c.args.insn c.args.self.now _ c.plan_load_capability.ensures.effect kind;
      can = c.plan_load_capability.ensures.can;
    }

pub returns-in-StoreCapability : goal.returns-in-StoreCapability
unfolding kind_effect asked does store_capability_effect
returns-in-StoreCapability g c =
    let kind = sym c.in-StoreCapability.is ∙ c.kind.ensures in record {
      effect = of_kind _ c.args.word c.args.insn c.args.self.now _ c.plan_store_capability.ensures.effect kind;
      can = c.plan_store_capability.ensures.can;
    }

pub returns-in-Csr : goal.returns-in-Csr
unfolding kind_effect asked does csr_effect
returns-in-Csr g c = record {
  effect = of_kind _ c.args.word c.args.insn c.args.self.now _ c.plan_csr.ensures.effect (sym c.in-Csr.is ∙ c.kind.ensures);
  can = c.plan_csr.ensures.can;
}

pub returns-in-SpecialRw : goal.returns-in-SpecialRw
unfolding kind_effect asked does special_effect
returns-in-SpecialRw g c = record {
  effect = of_kind _ c.args.word c.args.insn c.args.self.now _ c.plan_special.ensures.effect (sym c.in-SpecialRw.is ∙ c.kind.ensures);
  can = c.plan_special.ensures.can;
}

pub returns-in-Mret : goal.returns-in-Mret
unfolding kind_effect asked does return_effect
returns-in-Mret g c = record {
  effect = of_kind _ c.args.word c.args.insn c.args.self.now _ c.plan_return.ensures.effect (sym c.in-Mret.is ∙ c.kind.ensures);
  can = c.plan_return.ensures.can;
}

pub returns-in-Fence-clause-can : goal.returns-in-Fence-clause-can
unfolding CanApply
returns-in-Fence-clause-can g c = tt

pub returns-in-Ecall-clause-can : goal.returns-in-Ecall-clause-can
unfolding CanApply
returns-in-Ecall-clause-can g c = tt

pub returns-in-Ebreak-clause-can : goal.returns-in-Ebreak-clause-can
unfolding CanApply
returns-in-Ebreak-clause-can g c = tt
