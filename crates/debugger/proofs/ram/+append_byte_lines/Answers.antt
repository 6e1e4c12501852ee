use Rattle.std.proofs.Common.{arith}
use Rattle.std.proofs.lemmas.Bool.Decides.{nat_tests}
use Rattle.debugger.proofs.RamLines.{byte_lines_from}
use Rattle.debugger.proofs.ram.+append_byte_lines.Goals as goal

pub returns : goal.returns
returns t c =
    byte_lines_from c.args.lines c.args.address c.args.bytes.now _ _ _ _ _ (grind (arith, nat_tests)) c.requires.lines
    c.first_line.ensures.first c.first_line.ensures.others c.in_ok-append_byte_line.ensures c.in_ok-append_byte_lines.ensures
