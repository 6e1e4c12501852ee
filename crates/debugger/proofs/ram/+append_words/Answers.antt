use Rattle.std.proofs.Common.{arith}
use Rattle.debugger.proofs.RamLines.{word_lines_from}
use Rattle.debugger.proofs.ram.+append_words.Goals as goal

pub returns : goal.returns
returns t c =
    word_lines_from c.args.symbols.now c.args.mode c.args.memory.now c.args.count c.args.address _ _ _ _ (omega arith)
    c.word_at.ensures c.in_ok-put_word_line.ensures c.in_ok-append_words.ensures
