use Rattle.debugger.proofs.ram.+append_byte_lines.Given as goal

abbrev pub decreases-append_byte_lines : goal.decreases-append_byte_lines
decreases-append_byte_lines l = l.lines
