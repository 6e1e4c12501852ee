use Rattle.std.proofs.Common.{rules, sym, ap, subst, ◌∙◌}
use Rattle.steps.specs.Applying.{meant, CanApply}
use Rattle.steps.specs.Effect.{applied}
use Rattle.hart.proofs.hart.Hart.apply_effect.Goals as goal

pub write-requires : goal.write-requires
unfolding CanApply
write-requires g c = (search rules, subst (λ e. CanApply e c.args.self.now) c.in-Write.is c.requires)

pub write-requires-in-Unseal : goal.write-requires-in-Unseal
unfolding CanApply
write-requires-in-Unseal g c = (search rules, subst (λ e. CanApply e c.args.self.now) c.in-Unseal.is c.requires)

pub store-requires : goal.store-requires
unfolding CanApply
store-requires g c = (search rules, subst (λ e. CanApply e c.args.self.now) c.in-Store.is c.requires)

pub store_capability-requires : goal.store_capability-requires
unfolding CanApply
store_capability-requires g c = (search rules, subst (λ e. CanApply e c.args.self.now) c.in-StoreCapability.is c.requires)

pub load_device-requires : goal.load_device-requires
unfolding CanApply
load_device-requires g c = (search rules, (subst (λ e. CanApply e c.args.self.now) c.in-DeviceLoad.is c.requires).0)

pub end_at-requires : goal.end_at-requires
unfolding CanApply
end_at-requires g c = (search rules, subst (λ e. CanApply e c.args.self.now) c.in-Jump.is c.requires)

pub link_to-requires : goal.link_to-requires
unfolding CanApply
link_to-requires g c = (search rules, subst (λ e. CanApply e c.args.self.now) c.in-Link.is c.requires)

pub enter-requires : goal.enter-requires
unfolding CanApply
enter-requires g c = (search rules, subst (λ e. CanApply e c.args.self.now) c.in-Enter.is c.requires)

pub exchange-requires : goal.exchange-requires
unfolding CanApply
exchange-requires g c = (search rules, (subst (λ e. CanApply e c.args.self.now) c.in-Special.is c.requires).0)

pub write_csr-requires : goal.write_csr-requires
unfolding CanApply
write_csr-requires g c = (search rules, (subst (λ e. CanApply e c.args.self.now) c.in-Csr.is c.requires).0)

pub returns-in-Trap : goal.returns-in-Trap
unfolding applied
returns-in-Trap g c = c.trap.ensures ∙ sym (ap (λ e. applied (meant g.C.CapRep.value e) c.args.self.now) c.in-Trap.is)

pub returns-in-Nothing : goal.returns-in-Nothing
unfolding applied
returns-in-Nothing g c = c.end.ensures ∙ sym (ap (λ e. applied (meant g.C.CapRep.value e) c.args.self.now) c.in-Nothing.is)

pub returns-in-Write : goal.returns-in-Write
unfolding applied
returns-in-Write g c = c.write.ensures ∙ sym (ap (λ e. applied (meant g.C.CapRep.value e) c.args.self.now) c.in-Write.is)

pub returns-in-Unseal : goal.returns-in-Unseal
unfolding applied
returns-in-Unseal g c = c.write-in-Unseal.ensures ∙ sym (ap (λ e. applied (meant g.C.CapRep.value e) c.args.self.now) c.in-Unseal.is)

pub returns-in-Store : goal.returns-in-Store
unfolding applied
returns-in-Store g c = c.store.ensures ∙ sym (ap (λ e. applied (meant g.C.CapRep.value e) c.args.self.now) c.in-Store.is)

pub returns-in-StoreCapability : goal.returns-in-StoreCapability
unfolding applied
returns-in-StoreCapability g c =
    c.store_capability.ensures
    ∙ sym (ap (λ e. applied (meant g.C.CapRep.value e) c.args.self.now) c.in-StoreCapability.is)

pub returns-in-DeviceLoad : goal.returns-in-DeviceLoad
unfolding applied
returns-in-DeviceLoad g c = c.load_device.ensures ∙ sym (ap (λ e. applied (meant g.C.CapRep.value e) c.args.self.now) c.in-DeviceLoad.is)

pub returns-in-DeviceStore : goal.returns-in-DeviceStore
unfolding applied
returns-in-DeviceStore g c = c.store_device.ensures ∙ sym (ap (λ e. applied (meant g.C.CapRep.value e) c.args.self.now) c.in-DeviceStore.is)

pub returns-in-Jump : goal.returns-in-Jump
unfolding applied
returns-in-Jump g c = c.end_at.ensures ∙ sym (ap (λ e. applied (meant g.C.CapRep.value e) c.args.self.now) c.in-Jump.is)

pub returns-in-Link : goal.returns-in-Link
unfolding applied
returns-in-Link g c = c.link_to.ensures ∙ sym (ap (λ e. applied (meant g.C.CapRep.value e) c.args.self.now) c.in-Link.is)

pub returns-in-Enter : goal.returns-in-Enter
unfolding applied
returns-in-Enter g c = c.enter.ensures ∙ sym (ap (λ e. applied (meant g.C.CapRep.value e) c.args.self.now) c.in-Enter.is)

pub returns-in-Special : goal.returns-in-Special
unfolding applied
returns-in-Special g c = c.exchange.ensures ∙ sym (ap (λ e. applied (meant g.C.CapRep.value e) c.args.self.now) c.in-Special.is)

pub returns-in-Csr : goal.returns-in-Csr
unfolding applied
returns-in-Csr g c = c.write_csr.ensures ∙ sym (ap (λ e. applied (meant g.C.CapRep.value e) c.args.self.now) c.in-Csr.is)

pub returns-in-Return : goal.returns-in-Return
unfolding applied
returns-in-Return g c = c.return_from.ensures ∙ sym (ap (λ e. applied (meant g.C.CapRep.value e) c.args.self.now) c.in-Return.is)
