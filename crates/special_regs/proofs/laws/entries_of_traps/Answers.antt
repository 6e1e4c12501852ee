use Rattle.std.proofs.Common.{◌≡◌, ℕ, ◌+◌, ◌*◌, ◌/◌, ◌%◌, ◌^◌, ◌<◌, eqb, cond, ◌∙◌, arith}
use Rattle.special_regs.specs.Traps.{entry_address}
use Rattle.special_regs.proofs.laws.entries_of_traps.Goals as goal

-- the handler's address in a vectored mtvec
vectored : (handler words : ℕ) → handler % 4 ≡ 0 → handler + words < 2 ^ 64
    → ((handler + 1) / 4 * 4 + cond (eqb ((handler + 1) % 4) 1) words 0) % 2 ^ 64 ≡ handler + words
vectored handler words aligned fits =
    let mode : (handler + 1) % 4 ≡ 1 = omega arith in
    let at : (handler + 1) / 4 * 4 ≡ handler = omega arith in
    rw (mode, at) (omega arith)

pub returns-clause-direct : goal.returns-clause-direct
unfolding entry_address
returns-clause-direct c = λ handler mcause mtval aligned fits.
    let at : handler / 4 * 4 ≡ handler = omega arith in
    rw (aligned, at) (omega arith)

pub returns-clause-exception : goal.returns-clause-exception
unfolding entry_address
returns-clause-exception c = λ handler mtval aligned fits. vectored handler 0 aligned (omega arith) ∙ omega arith

pub returns-clause-timer : goal.returns-clause-timer
unfolding entry_address
returns-clause-timer c = λ handler mtval aligned fits. vectored handler 28 aligned fits

pub returns-clause-external : goal.returns-clause-external
unfolding entry_address
returns-clause-external c = λ handler mtval aligned fits. vectored handler 44 aligned fits
