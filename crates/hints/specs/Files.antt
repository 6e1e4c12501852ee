-- What a file is that was taken for an image, by the bytes that it begins with.
use Rattle.std.specs.Prelude.{ℕ, Bool, ◌&&◌, ◌||◌, ◌==◌, nat_le, nat_lt, if◌then◌else◌, List, [], ◌∷◌, codes, length, not}
use Rattle.std.specs.List.{list_all, starts_with}

-- 0x7f and ELF
abbrev pub is_elf : List ℕ → Bool
is_elf bytes = starts_with (λ a b. a == b) bytes (0x7f ∷ 0x45 ∷ 0x4c ∷ 0x46 ∷ [])

-- printable ASCII, a tab, a line feed or a carriage return
abbrev pub is_of_text : ℕ → Bool
is_of_text byte = (nat_le 32 byte && nat_lt byte 127) || ((byte == 9) || ((byte == 10) || (byte == 13)))

abbrev pub is_text : List ℕ → Bool
is_text bytes = not (length bytes == 0) && list_all is_of_text bytes

-- what is said of it; nothing of what is neither
abbrev pub elf_hint : List ℕ
elf_hint = codes "this is an ELF: make flat bytes of it by objcopy -O binary, and an image by cherisim image (docs/COMPILED.md)"

abbrev pub text_hint : List ℕ
text_hint = codes "this is a text: a file is assembled where its name ends in .s"

unfoldable pub image_hint : List ℕ → List ℕ
image_hint bytes = if is_elf bytes then elf_hint else (if is_text bytes then text_hint else [])
