use Rattle.symbols.proofs.LineLemmas.{has_address_of}
use Rattle.symbols.proofs.table.push_symbol.Goals as goal

pub address-address-requires : goal.address-address-requires
address-address-requires c = has_address_of c.args.line.now cc
