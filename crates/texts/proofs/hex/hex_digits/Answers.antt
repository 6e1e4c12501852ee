use Rattle.std.proofs.Common.{◌++◌, ap, sym, ◌∙◌, subst}
use Rattle.std.specs.Prelude.{IsUtf8}
use Rattle.texts.specs.Hex.{hex_of}
use Rattle.texts.specs.HexLaws.{last_digits, hex_is_utf8}
use Rattle.texts.proofs.hex.hex_digits.Goals as goal

pub from_utf8_unchecked-requires : goal.from_utf8_unchecked-requires
from_utf8_unchecked-requires c =
    subst IsUtf8 (sym (last_digits c.args.width c.args.n c.write_hex.new.digits c.requires c.write_hex.ensures))
    (hex_is_utf8 c.args.width c.args.n)

pub returns-clause-text : goal.returns-clause-text
returns-clause-text c =
    c.push_str.ensures.bytes
    ∙ ap (λ b. c.new-text.result.bytes ++ b)
    (c.from_utf8_unchecked.ensures ∙ last_digits c.args.width c.args.n c.write_hex.new.digits c.requires c.write_hex.ensures)
    ∙ ap (λ b. b ++ hex_of c.args.width c.args.n) c.new-text.ensures
