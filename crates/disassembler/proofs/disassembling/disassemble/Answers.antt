use Rattle.std.proofs.Common.{sym, ap, ◌∙◌, arith}
use Rattle.isa_rows.specs.DecodedLaws.{insn_of-answered}
use Rattle.disassembler.specs.Shown.{shown_found}
use Rattle.disassembler.proofs.disassembling.disassemble.Goals as goal

pub returns-in-Some : goal.returns-in-Some
returns-in-Some c =
    let e = insn_of-answered c.args.word c.decode.result (omega arith) c.decode.ensures.found c.decode.ensures.only in
    c.insn_text.ensures ∙ ap (shown_found c.args.mode c.args.word) (sym c.in-Some.is ∙ e)

pub returns-in-None : goal.returns-in-None
returns-in-None c =
    let e = insn_of-answered c.args.word c.decode.result (omega arith) c.decode.ensures.found c.decode.ensures.only in
    c.number.ensures ∙ ap (shown_found c.args.mode c.args.word) (sym c.in-None.is ∙ e)
