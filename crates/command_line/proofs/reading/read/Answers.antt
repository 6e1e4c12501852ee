use Rattle.std.proofs.Common.{subst, sym}
use Rattle.clap.specs.Words.{found_of, rows_of}
use Rattle.command_line.specs.CommandLine.{HasAll, Says, commands}
use Rattle.command_line.proofs.Found.{no_other}
use Rattle.command_line.proofs.reading.read.Goals as goal

pub asm_plan-requires : goal.asm_plan-requires
asm_plan-requires c = subst (λ name. HasAll name (rows_of (found_of c.args.found.now))) c.in-asm.is c.requires

pub returns-in-asm : goal.returns-in-asm
returns-in-asm c =
    subst (λ name. Says name (rows_of (found_of c.args.found.now)) c.asm_plan.result) (sym c.in-asm.is) c.asm_plan.ensures

pub image_plan-requires : goal.image_plan-requires
image_plan-requires c = subst (λ name. HasAll name (rows_of (found_of c.args.found.now))) c.in-image.is c.requires

pub returns-in-image : goal.returns-in-image
returns-in-image c =
    subst (λ name. Says name (rows_of (found_of c.args.found.now)) c.image_plan.result) (sym c.in-image.is) c.image_plan.ensures

pub go_plan-requires : goal.go_plan-requires
go_plan-requires c = subst (λ name. HasAll name (rows_of (found_of c.args.found.now))) c.in-go.is c.requires

pub returns-in-go : goal.returns-in-go
returns-in-go c =
    subst (λ name. Says name (rows_of (found_of c.args.found.now)) c.go_plan.result) (sym c.in-go.is) c.go_plan.ensures

pub run_plan-requires : goal.run_plan-requires
run_plan-requires c = subst (λ name. HasAll name (rows_of (found_of c.args.found.now))) c.in-run.is c.requires

pub returns-in-run : goal.returns-in-run
returns-in-run c =
    subst (λ name. Says name (rows_of (found_of c.args.found.now)) c.run_plan.result) (sym c.in-run.is) c.run_plan.ensures

pub audit_plan-requires : goal.audit_plan-requires
audit_plan-requires c = subst (λ name. HasAll name (rows_of (found_of c.args.found.now))) c.in-audit.is c.requires

pub returns-in-audit : goal.returns-in-audit
returns-in-audit c =
    subst (λ name. Says name (rows_of (found_of c.args.found.now)) c.audit_plan.result) (sym c.in-audit.is) c.audit_plan.ensures

pub prove_plan-requires : goal.prove_plan-requires
prove_plan-requires c = subst (λ name. HasAll name (rows_of (found_of c.args.found.now))) c.in-prove.is c.requires

pub returns-in-prove : goal.returns-in-prove
returns-in-prove c =
    subst (λ name. Says name (rows_of (found_of c.args.found.now)) c.prove_plan.result) (sym c.in-prove.is) c.prove_plan.ensures

pub dis_plan-requires : goal.dis_plan-requires
dis_plan-requires c = subst (λ name. HasAll name (rows_of (found_of c.args.found.now))) c.in-dis.is c.requires

pub returns-in-dis : goal.returns-in-dis
returns-in-dis c =
    subst (λ name. Says name (rows_of (found_of c.args.found.now)) c.dis_plan.result) (sym c.in-dis.is) c.dis_plan.ensures

pub debug_plan-requires : goal.debug_plan-requires
debug_plan-requires c = subst (λ name. HasAll name (rows_of (found_of c.args.found.now))) c.in-debug.is c.requires

pub returns-in-debug : goal.returns-in-debug
returns-in-debug c =
    subst (λ name. Says name (rows_of (found_of c.args.found.now)) c.debug_plan.result) (sym c.in-debug.is) c.debug_plan.ensures

pub bounds_plan-requires : goal.bounds_plan-requires
bounds_plan-requires c = subst (λ name. HasAll name (rows_of (found_of c.args.found.now))) c.in-bounds.is c.requires

pub returns-in-bounds : goal.returns-in-bounds
returns-in-bounds c =
    subst (λ name. Says name (rows_of (found_of c.args.found.now)) c.bounds_plan.result) (sym c.in-bounds.is) c.bounds_plan.ensures

pub word_plan-requires : goal.word_plan-requires
word_plan-requires c = subst (λ name. HasAll name (rows_of (found_of c.args.found.now))) c.in-word.is c.requires

pub returns-in-word : goal.returns-in-word
returns-in-word c =
    subst (λ name. Says name (rows_of (found_of c.args.found.now)) c.word_plan.result) (sym c.in-word.is) c.word_plan.ensures

pub unreachable-requires : goal.unreachable-requires
unfolding commands
unreachable-requires c =
    no_other c.args.name.now (rows_of (found_of c.args.found.now)) (
      c.in_default.not-asm,
      (
        c.in_default.not-image,
        (
          c.in_default.not-go,
          (
            c.in_default.not-run,
            (
              c.in_default.not-audit,
              (
                c.in_default.not-prove,
                (
                  c.in_default.not-dis,
                  (
                    c.in_default.not-debug,
                    (
                      c.in_default.not-bounds,
                      (
                        c.in_default.not-word,
                        tt,
                      ),
                    ),
                  ),
                ),
              ),
            ),
          ),
        ),
      ),
    )
    c.requires
