-- Where a machine stands after a run: `cherisim: steps 10000, pcc 0000000080000010 <loop+4>`; after the address stands its label.
use Rattle.std.specs.Prelude.{ℕ, List, ◌++◌, Option, Some, None, codes, decimal}
use Rattle.json.specs.Token.{Token}
use Rattle.objects.specs.Items.{address_field, null_field, number_field}
use Rattle.objects.specs.Places.{place_field}
use Rattle.steps.specs.State.{State, pc_of}
use Rattle.symbols.specs.Symbols.{Symbol}
use Rattle.symbols.specs.Labels.{labelled}
use Rattle.explain.specs.declared.standing.Standing.{Standing}

abbrev pub standing_text : List Symbol → ℕ → State → List ℕ
standing_text symbols steps s = codes "cherisim: steps " ++ decimal steps ++ codes ", pcc " ++ labelled symbols (pc_of s)

-- the number that a run halted with, where it halted
abbrev pub halted_field : Option ℕ → List Token
halted_field None = null_field (codes "halted")
halted_field (Some number) = address_field (codes "halted") number

unfoldable pub run_fields : Standing → List Token
run_fields x =
    number_field (codes "status") x.status ++ halted_field x.halted ++ number_field (codes "steps") x.steps

-- the same as an object has it, with the status of the run
unfoldable pub standing_fields : List Symbol → Standing → State → List Token
standing_fields symbols x s = run_fields x ++ place_field (codes "pcc") symbols (pc_of s)
