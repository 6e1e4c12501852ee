use Rattle.std.proofs.Common.{refl}
use Rattle.image.specs.declared.fault.ImageFault.TheVariants.{L11}
use Rattle.cherisim_c.proofs.life.machine_of_bytes.Goals as goal

-- out of memory is no fault of the bytes
pub returns-clause-err : goal.returns-clause-err
returns-clause-err c = record { fault = L11; number = refl; of_bytes = λ of_bytes. absurd of_bytes }
