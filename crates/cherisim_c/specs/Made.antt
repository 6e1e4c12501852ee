-- What a machine for C is made of.
use Rattle.std.specs.Prelude.{◌≡◌, ℕ, Option, Result, Err}
use Rattle.image.specs.Image.{Image}
use Rattle.image.specs.Reads.{IsOfBytes}
use Rattle.image.specs.declared.fault.ImageFault.{ImageFault}
use Rattle.assembler.specs.declared.fault.AsmCode.{AsmCode}
use Rattle.assembler.specs.declared.fault.AsmFault.{AsmFault}
use Rattle.assembler.specs.Left.{IsFaultOf}
use Rattle.cherisim_c.specs.Status.{image_status, text_status}

-- the status is that of the bytes' own fault, or of the reader's or the memory's
pub record IsImageRefusal (read : Result Image ImageFault) (status : ℕ) : Type 0 where
  pub fault : ImageFault
  pub number : status ≡ image_status fault
  pub of_bytes : IsOfBytes fault → read ≡ Err fault

-- the status and the line are those of the text's first fault, or of the memory's, with line 0
pub record IsTextRefusal (found : Option (ℕ × AsmCode)) (line status : ℕ) : Type 0 where
  pub fault : AsmFault
  pub number : status ≡ text_status fault.code
  pub at_line : line ≡ fault.line
  pub first : IsFaultOf found fault
