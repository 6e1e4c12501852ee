-- What the contracts of `decode` and `encode` say of an answer.
use Rattle.std.specs.Prelude.{◌≡◌, ℕ, Option, Some, IfSome}
use Rattle.isa_rows.specs.declared.operands.Insn.{Insn}
use Rattle.isa_rows.specs.Insn.{IsInsn}

-- an answer to a word: an instruction that it finds is the word's, and the word's instruction is found
pub record IsDecoded (word : ℕ) (answer : Option Insn) : Type 0 where
  pub found : IfSome answer (λ insn. IsInsn word insn)
  pub only : (insn : Insn) → IsInsn word insn → answer ≡ Some insn

-- a word for an instruction: it is the instruction, and no other word is
pub record IsEncoded (insn : Insn) (word : ℕ) : Type 0 where
  pub value : IsInsn word insn
  pub only : (other : ℕ) → IsInsn other insn → other ≡ word
