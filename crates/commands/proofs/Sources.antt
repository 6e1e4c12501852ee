-- Programs of files: what holds where bytes are known, and why there is none.
use Rattle.std.specs.Prelude.{◌≡◌, ℕ, Bool, true, false, List, [], Option, Some, None, Ok, IfSome, ⊤}
use Rattle.std.proofs.Common.{subst, sym, ap, ◌∙◌}
use Rattle.std.proofs.lemmas.Bool.{false≢true}
use Rattle.std.specs.Borrow.{Bor}
use Rattle.assembler.specs.declared.fault.AsmFault.{AsmFault}
use Rattle.assembler.specs.Left.{IsFaultOf}
use Rattle.assembler.specs.Places as places
use Rattle.assembler.specs.Text.{text_fault, text_image}
use Rattle.image.specs.Grammar.{reading}
use Rattle.image.specs.Image.{Image}
use Rattle.symbols.specs.Sources.{faulty_place, places_of}
use Rattle.symbols.specs.Symbols.{table_text}
use Rattle.commands.specs.declared.fault.ProgramFault.{ProgramFault}
use Rattle.commands.specs.declared.fault.ProgramFault.TheVariants.{Asm, Memory}
use Rattle.commands.specs.Assembling.{IsAsmFault, IsFaultyText, own_lines, seen_labels}
use Rattle.commands.specs.Files.{Text, File, AreLinesOf, Holds, IsTableFault, IsTextTableFault, bytes_of}
use Rattle.commands.specs.Programs.{Means, GivesImage, GivesOwnLines, IsLabelsFault, is_source, own_table}

-- the fault that is told of a text is its own
pub faulty : (input text : List ℕ) (found : AsmFault) (fault : ProgramFault) → IsFaultOf (text_fault text) found
    → IsAsmFault input text found fault → IsFaultyText input text fault
faulty input text found (Asm shown) is told = (subst (IsFaultOf (text_fault text)) (sym told.0) is, told.1)
faulty input text found other is told = absurd told

both : {A : Type 0} (o : Option A) (P Q : A → Type 0) → IfSome o P → IfSome o Q → IfSome o (λ a. P a × Q a)
both None P Q p q = tt
both (Some a) P Q p q = (p, q)

ifsome-tt : {A : Type 0} (o : Option A) → IfSome o (λ a. ⊤)
ifsome-tt None = tt
ifsome-tt (Some a) = tt

module _ (name : Text) (files : Option (List File)) where
  pub of_text : (image : Image) → is_source name ≡ true → IfSome (bytes_of name files) (λ text. text_fault text ≡ None)
      → IfSome (bytes_of name files) (λ text. image ≡ text_image text) → GivesImage name files image
  of_text image is correct means =
      subst (λ b. IfSome (bytes_of name files) (λ text. Means b text image)) (sym is) (both (bytes_of name files) _ _ correct means)

  pub of_bytes : (image : Image) → is_source name ≡ false → IfSome (bytes_of name files) (λ bytes. reading bytes ≡ Ok image)
      → GivesImage name files image
  of_bytes image is read = subst (λ b. IfSome (bytes_of name files) (λ bytes. Means b bytes image)) (sym is) read

  named_of : (b : Bool) (table : Bor Text) (fault : ProgramFault) → IsTableFault table.now files fault
      → IsLabelsFault b name (Some table) files fault
  named_of true table fault told = told
  named_of false table fault told = told

  pub named : (table : Bor Text) (fault : ProgramFault) → IsTableFault table.now files fault
      → IsLabelsFault (is_source name) name (Some table) files fault
  named table fault told = named_of (is_source name) table fault told

  own_of : (o : Option (List ℕ)) (labels : places.Symbols) (fault : ProgramFault) → IfSome o (λ text. labels ≡ places.symbols_of text)
      → IsTextTableFault name (table_text (seen_labels labels)) fault → IfSome o (λ text. IsTextTableFault name (own_table text) fault)
  own_of None labels fault are told = tt
  own_of (Some text) labels fault are told = subst (λ l. IsTextTableFault name (table_text (seen_labels l)) fault) are told

  pub own : (labels : places.Symbols) (fault : ProgramFault) → is_source name ≡ true
      → IfSome (bytes_of name files) (λ text. labels ≡ places.symbols_of text)
      → IsTextTableFault name (table_text (seen_labels labels)) fault → IsLabelsFault (is_source name) name None files fault
  own labels fault is are told =
      subst (λ b. IsLabelsFault b name None files fault) (sym is) (own_of (bytes_of name files) labels fault are told)

  -- ---- lines of sources

  lines_of_held : (o : Option (List ℕ)) (text lines : List ℕ) → IfSome o (λ held. text ≡ held) → lines ≡ own_lines name text
      → IfSome o (λ held. lines ≡ own_lines name held)
  lines_of_held None text lines held are = tt
  lines_of_held (Some bytes) text lines held are = are ∙ ap (own_lines name) held

  pub lines_of_text : (text lines : List ℕ) → is_source name ≡ true → Holds name files text → lines ≡ own_lines name text
      → GivesOwnLines (is_source name) name files lines
  lines_of_text text lines is held are =
      subst (λ b. GivesOwnLines b name files lines) (sym is) (lines_of_held (bytes_of name files) text lines held are)

  pub no_lines : (lines : List ℕ) → is_source name ≡ false → lines ≡ [] → GivesOwnLines (is_source name) name files lines
  no_lines lines is none = subst (λ b. GivesOwnLines b name files lines) (sym is) none

  out_of_memory_of : (b : Bool) (symbols : Option (Bor Text)) → b ≡ true → IsLabelsFault b name symbols files Memory
  out_of_memory_of true None is = ifsome-tt (bytes_of name files)
  out_of_memory_of true (Some table) is = tt
  out_of_memory_of false None is = absurd (false≢true is)
  out_of_memory_of false (Some table) is = tt

  pub out_of_memory : (symbols : Option (Bor Text)) → is_source name ≡ true → IsLabelsFault (is_source name) name symbols files Memory
  out_of_memory symbols is = out_of_memory_of (is_source name) symbols is

  read_as : (o : Option (List ℕ)) (text : List ℕ) → IfSome o (λ held. text ≡ held) → faulty_place text ≡ None
      → IfSome o (λ held. (faulty_place held ≡ None) × (places_of text ≡ places_of held))
  read_as None text held correct = tt
  read_as (Some bytes) text held correct = (subst (λ t. faulty_place t ≡ None) held correct, ap places_of held)

  pub lines_read : (text : List ℕ) → Holds name files text → faulty_place text ≡ None → AreLinesOf name files (places_of text)
  lines_read text held correct = read_as (bytes_of name files) text held correct
