-- What calls answer: 0, or why not, as a number.
use Rattle.std.specs.Prelude.{ℕ}
use Rattle.image.specs.declared.fault.ImageFault.{ImageFault}
use Rattle.image.specs.declared.fault.ImageFault.TheVariants as image
use Rattle.assembler.specs.declared.fault.AsmCode.{AsmCode}
use Rattle.assembler.specs.declared.fault.AsmCode.TheVariants as text

-- done
abbrev pub ok : ℕ
ok = 0

-- out of memory
abbrev pub no_memory : ℕ
no_memory = 64

-- the handle has no machine
abbrev pub no_machine : ℕ
no_machine = 65

-- no such register, an address outside RAM or not aligned, a value that can't stand there
abbrev pub out_of_range : ℕ
out_of_range = 66

-- the buffer is too short
abbrev pub full : ℕ
full = 67

-- the number of an image's fault; the reader of bytes in memory can't fail (L10), and L11 is out of memory
abbrev pub image_status : ImageFault → ℕ
image_status image.L1 = 1
image_status image.L2 = 2
image_status image.L3 = 3
image_status image.L4 = 4
image_status image.L5 = 5
image_status image.L6 = 6
image_status image.L7 = 7
image_status image.L8 = 8
image_status image.L9 = 9
image_status image.L10 = 10
image_status image.L11 = no_memory
image_status image.L12 = 12
image_status image.L13 = 13
image_status image.L14 = 14
image_status image.L15 = 15

-- 32 and the number of a text's fault; A10 is out of memory
abbrev pub text_status : AsmCode → ℕ
text_status text.A1 = 33
text_status text.A2 = 34
text_status text.A3 = 35
text_status text.A4 = 36
text_status text.A5 = 37
text_status text.A6 = 38
text_status text.A7 = 39
text_status text.A8 = 40
text_status text.A9 = 41
text_status text.A10 = no_memory
text_status text.A11 = 43
