-- A plain effect that is derived makes nothing new reachable: one line an effect.
use Rattle.std.proofs.Common.{◌≡◌, ℕ, Bool, true, false, cond, refl, sym, ◌∙◌}
use Rattle.byteorder.specs.Endian.{little_bytes}
use Rattle.byteorder.specs.Numbers.{length-bytes_low_first}
use Rattle.base.specs.Size.{bytes_of}
use Rattle.cap_bounds.specs.CapValue.{CapValue, Cap, Data, is_tagged}
use Rattle.tagged_memory.specs.Memory.{IsMemory, is_in_ram, data_written}
use Rattle.special_regs.specs.Writes.{views_written, scr_written}
use Rattle.steps.specs.declared.effect.Effect.{Effect}
use Rattle.steps.specs.declared.effect.Effect.TheVariants as effect
use Rattle.steps.specs.Effect.{applied}
use Rattle.steps.specs.Outcome.{Plain, Unseal, SealedJump, outcome_of}
use Rattle.steps.specs.AppliedLaws.{IsSoundEffect}
use Rattle.steps.specs.State.{State}
use Rattle.authority.specs.Grounded.{IsGroundedIfTagged, IsFramed}
use Rattle.authority.specs.RowLaws.{system-used}
use Rattle.authority.specs.Derives.{Derives}
use Rattle.authority.specs.FrameLaws.{FramesMemory, framed-by, registers-same, registers-written, scrs-same, scrs-moved, scrs-entered}
use Rattle.authority.specs.FrameLaws.{scrs-replaced, scrs-views, scrs-returned, memory-same, memory-stored, memory-value_stored}

-- ---- plain outcomes

-- an unsealing that is plain gave data
pub unseal-plain : (s : State) (v : CapValue) → cond (is_tagged v) Unseal Plain ≡ Plain → IsGroundedIfTagged s v
unseal-plain s (Cap r) plain = cc
unseal-plain s (Data n) plain = λ tagged. cc

-- a jump that is plain went through no seal
pub jump-plain : (closed : Bool) → cond closed SealedJump Plain ≡ Plain → closed ≡ false
jump-plain true plain = cc
jump-plain false plain = refl

-- ---- effects

number-stored : (s : State) (address size number : ℕ) → IsMemory s.memory → is_in_ram s.memory address size ≡ true
    → FramesMemory s (data_written s.memory address (little_bytes size number))
number-stored s address size number memory inside =
    memory-stored s address (little_bytes size number) memory (rw (length-bytes_low_first 0 size number) inside)

pub effect-framed : (e : Effect CapValue) (s : State) → IsMemory s.memory → IsSoundEffect e s → Derives e s → outcome_of e ≡ Plain
    → IsFramed s (applied e s)
unfolding applied outcome_of
effect-framed (effect.Trap fault) s memory sound derives plain = cc
effect-framed effect.Nothing s memory sound derives plain =
    framed-by s _ (registers-same s) (scrs-moved s s.scrs _ (scrs-same s)) (memory-same s)
effect-framed (effect.Write w) s memory sound derives plain =
    framed-by s _ (registers-written s w.rd w.value derives) (scrs-moved s s.scrs _ (scrs-same s)) (memory-same s)
effect-framed (effect.Unseal w) s memory sound derives plain =
    framed-by s _ (registers-written s w.rd w.value (unseal-plain s w.value plain)) (scrs-moved s s.scrs _ (scrs-same s)) (memory-same s)
effect-framed (effect.Store w) s memory sound derives plain =
    framed-by s _ (registers-same s) (scrs-moved s s.scrs _ (scrs-same s))
    (number-stored s w.address (bytes_of w.size) w.number memory sound)
effect-framed (effect.StoreCapability w) s memory sound derives plain =
    framed-by s _ (registers-same s) (scrs-moved s s.scrs _ (scrs-same s))
    (memory-value_stored s w.address w.value memory sound.0 sound.1 derives.1)
effect-framed (effect.DeviceLoad l) s memory sound derives plain =
    framed-by s _ (registers-written s l.rd l.value derives) (scrs-moved s s.scrs _ (scrs-same s)) (memory-same s)
effect-framed (effect.DeviceStore w) s memory sound derives plain =
    framed-by s _ (registers-same s) (scrs-moved s s.scrs _ (scrs-same s)) (memory-same s)
effect-framed (effect.Jump target) s memory sound derives plain =
    framed-by s _ (registers-same s) (scrs-moved s s.scrs _ (scrs-same s)) (memory-same s)
effect-framed (effect.Link l) s memory sound derives plain =
    framed-by s _ (registers-written s l.rd l.link derives) (scrs-moved s s.scrs _ (scrs-same s)) (memory-same s)
effect-framed (effect.Enter e) s memory sound derives plain =
    let both = derives (jump-plain e.sealed plain) in
    framed-by s _ (registers-written s e.rd e.link both.0)
    (scrs-moved s (record s.scrs { pcc = e.code }) e.target (scrs-entered s e.code both.1)) (memory-same s)
effect-framed (effect.Special w) s memory sound derives plain =
    framed-by s _ (registers-written s w.rd w.old derives.0)
    (scrs-moved s (scr_written w.number w.value s.scrs) _ (scrs-replaced s w.number w.value derives.1)) (memory-same s)
effect-framed (effect.Csr w) s memory sound derives plain =
    framed-by s _ (registers-written s w.rd w.old derives.0)
    (scrs-moved s (views_written w.number w.value s.scrs) _ (scrs-views s w.number w.value (system-used s derives.1))) (memory-same s)
effect-framed (effect.Return closed) s memory sound derives plain =
    framed-by s _ (registers-same s) (scrs-returned s (system-used s derives.0) (sym derives.1 ∙ jump-plain closed plain)) (memory-same s)
