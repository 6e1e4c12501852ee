-- What is told of a fault: its first line, and the lines that help.
use Rattle.std.specs.Prelude.{ℕ, nat_lt, Bool, if◌then◌else◌, List, [], ◌∷◌, ◌++◌, codes, decimal}
use Rattle.std.specs.declared.io.ErrorKind.{ErrorKind}
use Rattle.std.specs.declared.io.ErrorKind.TheVariants as reason
use Rattle.std.specs.declared.vec.Vec.{Vec}
use Rattle.assembler.specs.declared.fault.AsmCode.{AsmCode}
use Rattle.assembler.specs.declared.fault.AsmCode.TheVariants.{A1, A2, A3, A4, A5, A6, A7, A8, A9, A10, A11}
use Rattle.assembler.specs.declared.fault.AsmFault.{AsmFault}
use Rattle.fault_details.specs.Detail.{line_at}
use Rattle.image.specs.declared.fault.ImageFault.{ImageFault}
use Rattle.image.specs.declared.fault.ImageFault.TheVariants.{L1, L2, L3, L4, L5, L6, L7, L8, L9, L10, L11, L12, L13, L14, L15}
use Rattle.machine.specs.declared.fault.MachineFault.{MachineFault}
use Rattle.machine.specs.declared.fault.MachineFault.TheVariants.{M2, M5}
use Rattle.policy_text.specs.declared.fault.PolicyCode.{PolicyCode}
use Rattle.policy_text.specs.declared.fault.PolicyCode.TheVariants.{P1, P2, P3, P4, P5, P6, P7, P8}
use Rattle.commands.specs.declared.fault.ProgramFault.{ProgramFault}
use Rattle.commands.specs.declared.fault.ProgramFault.TheVariants as program
use Rattle.commands.specs.declared.faulty_text.FaultyText.{FaultyText}
use Rattle.commands.specs.Files.{Text}

-- ---- a code and its words

abbrev pub image_words : ImageFault → List ℕ
image_words L1 = codes "L1 short header"
image_words L2 = codes "L2 magic"
image_words L3 = codes "L3 version"
image_words L4 = codes "L4 pages, entry or mode"
image_words L5 = codes "L5 too many sections"
image_words L6 = codes "L6 section outside RAM"
image_words L7 = codes "L7 sections not ascending"
image_words L8 = codes "L8 truncated"
image_words L9 = codes "L9 bytes after the end"
image_words L10 = codes "L10 device failed"
image_words L11 = codes "L11 no memory"
image_words L12 = codes "L12 capability place"
image_words L13 = codes "L13 capability not exact"
image_words L14 = codes "L14 permissions or flag"
image_words L15 = codes "L15 too many capabilities"

abbrev pub policy_words : PolicyCode → List ℕ
policy_words P1 = codes "P1 neither a definition nor a rule"
policy_words P2 = codes "P2 name unknown"
policy_words P3 = codes "P3 name twice"
policy_words P4 = codes "P4 number"
policy_words P5 = codes "P5 range empty"
policy_words P6 = codes "P6 part unknown"
policy_words P7 = codes "P7 part twice"
policy_words P8 = codes "P8 part malformed"

abbrev pub asm_words : AsmCode → List ℕ
asm_words A1 = codes "A1 unknown mnemonic"
asm_words A2 = codes "A2 operands"
asm_words A3 = codes "A3 immediate out of range"
asm_words A4 = codes "A4 label twice"
asm_words A5 = codes "A5 label unknown"
asm_words A6 = codes "A6 target out of range"
asm_words A7 = codes "A7 place"
asm_words A8 = codes "A8 byte not ASCII"
asm_words A9 = codes "A9 line too long"
asm_words A10 = codes "A10 no memory"
asm_words A11 = codes "A11 capability not exact"

abbrev pub machine_words : MachineFault → List ℕ
machine_words M2 = codes "M2 no memory"
machine_words M5 = codes "M5 no memory"

-- the system's words for why a file can't be opened, made or read
abbrev pub reason_words : ErrorKind → List ℕ
reason_words reason.NotFound = codes "No such file or directory"
reason_words reason.PermissionDenied = codes "Permission denied"
reason_words reason.AlreadyExists = codes "File exists"
reason_words reason.NotADirectory = codes "Not a directory"
reason_words reason.IsADirectory = codes "Is a directory"
reason_words reason.ReadOnlyFilesystem = codes "Read-only file system"
reason_words reason.StorageFull = codes "No space left on device"
reason_words reason.QuotaExceeded = codes "Disk quota exceeded"
reason_words reason.FileTooLarge = codes "File too large"
reason_words reason.ResourceBusy = codes "Device or resource busy"
reason_words reason.ExecutableFileBusy = codes "Text file busy"
reason_words reason.InvalidFilename = codes "File name too long"
reason_words reason.FilesystemLoop = codes "Too many levels of symbolic links"
reason_words reason.StaleNetworkFileHandle = codes "Stale file handle"
reason_words reason.InvalidInput = codes "Invalid argument"
reason_words reason.Interrupted = codes "Interrupted system call"
reason_words reason.BrokenPipe = codes "Broken pipe"
reason_words _ = codes "refused by the system"

-- ---- the first line

-- a file's name, of which a line alone has the first line
abbrev pub shown_name : Bool → Text → List ℕ
shown_name alone name = if alone then line_at 1 name else name

abbrev pub numbered : ℕ → List ℕ → List ℕ
numbered number words = codes "line " ++ decimal number ++ codes ": " ++ words

abbrev pub first_line : Bool → ProgramFault → List ℕ
first_line alone (program.NoFile name reason) = codes "file " ++ shown_name alone name.now
first_line alone (program.Directory name) = codes "file " ++ shown_name alone name.now
first_line alone (program.Read name reason) = codes "read failed"
first_line alone program.Words = codes "read failed"
first_line alone program.Input = codes "read failed"
first_line alone (program.Write failed) = codes "write failed"
first_line alone program.Memory = codes "no memory"
first_line alone (program.File name fault hint) = image_words fault
first_line alone (program.Elf name) = codes "ELF, not flat bytes"
first_line alone (program.Symbols name number) = numbered number (codes "no address and label")
first_line alone (program.Lines name number) = numbered number (codes "no address and line of a source")
first_line alone (program.Policy name number code) = numbered number (policy_words code)
first_line alone (program.LongPolicy name) = codes "P9 policy too long"
first_line alone (program.LongText name) = codes "text too long"
first_line alone (program.CutShort name) = codes "L10 device failed"
first_line alone (program.Image fault) = image_words fault
first_line alone (program.Asm told) = numbered told.fault.line (asm_words told.fault.code)
first_line alone (program.Machine fault) = machine_words fault

-- ---- the lines that help, each after a line feed and set in by two blanks

abbrev pub elf_hint : List ℕ
elf_hint = codes "make flat bytes of it by objcopy -O binary (docs/COMPILED.md); --flat-elf takes its bytes as they stand"

abbrev pub in_file : Text → List ℕ
in_file name = codes "\n  " ++ name

abbrev pub at_line : Text → ℕ → List ℕ
at_line name number = in_file name ++ codes ":" ++ decimal number

-- a text after what stands before it, and nothing where it is empty
abbrev pub marked : List ℕ → List ℕ → List ℕ
marked mark [] = []
marked mark (b ∷ bs) = mark ++ (b ∷ bs)

abbrev pub hint_line : List ℕ → List ℕ
hint_line hint = marked (codes "\n  hint: ") hint

abbrev pub after_colon : List ℕ → List ℕ
after_colon text = marked (codes ": ") text

-- the fault of a later line, and what its author probably meant
abbrev pub further_line : Text → AsmFault → List ℕ → List ℕ
further_line name fault hint = at_line name fault.line ++ codes ": " ++ asm_words fault.code ++ after_colon hint

abbrev pub further_lines : {A : Type 0} → Text → List AsmFault → List (Vec ℕ A) → List ℕ
further_lines name [] hints = []
further_lines {A = A} name (f ∷ fs) [] = further_line name f [] ++ further_lines {A = A} name fs []
further_lines name (f ∷ fs) (h ∷ hs) = further_line name f h.items ++ further_lines name fs hs

abbrev pub left_line : ℕ → List ℕ
left_line left = if nat_lt 0 left then codes "\n  and " ++ decimal left ++ codes " more" else []

abbrev pub help_of_text : FaultyText → List ℕ
help_of_text told =
    at_line told.name.now told.fault.line ++ after_colon told.read.items ++ hint_line told.hint.items
    ++ further_lines told.name.now told.further.shown.items told.hints.items ++ left_line told.further.left

abbrev pub help_lines : ProgramFault → List ℕ
help_lines (program.NoFile name reason) = in_file (reason_words reason)
help_lines (program.Directory name) = codes "\n  Is a directory"
help_lines (program.Read name reason) = in_file name.now ++ after_colon (reason_words reason)
help_lines program.Words = []
help_lines program.Input = []
help_lines (program.Write failed) = []
help_lines program.Memory = []
help_lines (program.File name fault hint) = in_file name.now ++ hint_line hint.now
help_lines (program.Elf name) = in_file name.now ++ hint_line elf_hint
help_lines (program.Symbols name number) = at_line name.now number
help_lines (program.Lines name number) = at_line name.now number
help_lines (program.Policy name number code) = at_line name.now number
help_lines (program.LongPolicy name) = in_file name.now
help_lines (program.LongText name) = in_file name.now ++ after_colon (codes "more than 256 MiB")
help_lines (program.CutShort name) = in_file name.now ++ after_colon (codes "the file is cut short")
help_lines (program.Image fault) = []
help_lines (program.Asm told) = help_of_text told
help_lines (program.Machine fault) = []

-- what is told of a fault: its first line, and unless that stands alone the lines that help
abbrev pub fault_text : Bool → ProgramFault → List ℕ
fault_text alone fault =
    codes "cherisim: " ++ first_line alone fault ++ (if alone then [] else help_lines fault) ++ codes "\n"
