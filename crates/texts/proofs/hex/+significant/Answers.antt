use Rattle.std.proofs.Common.{◌+◌, ap, arith, length}
use Rattle.texts.specs.HexLaws.{hex_one, hex_more, length_of_hex, length_hex_16}
use Rattle.texts.proofs.hex.+significant.Goals as goal

pub returns-then-n-lt16-clause-all : goal.returns-then-n-lt16-clause-all
returns-then-n-lt16-clause-all t c = hex_one c.args.n (omega arith)

pub returns-else-n-lt16-clause-all : goal.returns-else-n-lt16-clause-all
returns-else-n-lt16-clause-all t c = hex_more c.significant.result c.args.n (omega arith) (omega arith) c.significant.ensures.all

pub returns-else-n-lt16-clause-within : goal.returns-else-n-lt16-clause-within
returns-else-n-lt16-clause-within t c =
    let all = hex_more c.significant.result c.args.n (omega arith) (omega arith) c.significant.ensures.all in
    omega (arith, ap length all, length_of_hex (c.significant.result + 1) c.args.n, length_hex_16 c.args.n (omega arith))
