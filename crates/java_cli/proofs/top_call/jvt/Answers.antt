use Rattle.arguments.specs.Commands as commands
use Rattle.arguments.specs.Commands.{command_of, texts}
use Rattle.arguments.specs.Meanings.{gen_meaning, run_meaning}
use Rattle.java_cli.proofs.CommandLaws.{exact_not_usage, help_of_run, line_alone, spelled}
use Rattle.java_cli.proofs.GenLaws.{gen_not_usage, gen_store, memory_gen, memory_generated, refused_gen}
use Rattle.java_cli.proofs.ToolLaws.{asm_by, gen_by, help_by, list_by, refused_asm, refused_list, run_by, spelled_by, tool_line, tool_usage}
use Rattle.java_cli.proofs.top_call.jvt.Goals as goal

-- ---- a run

pub returns-in-Run-clause-line : goal.returns-in-Run-clause-line
returns-in-Run-clause-line g c idle =
    let r = run_meaning c.in-Run.run' in
    line_alone g.E.Sink.contents g.E.Sink.faults c.args.err.now c.run_program.new.err (command_of (texts c.args.args.now)) (commands.run r) c.run_program.result.why c.run_program.result.err_written (spelled_by c.in-Ok.ensures.command c.in-Run.is)
    (exact_not_usage _ _ r c.run_program.result.why c.run_program.ensures.exact) (c.run_program.ensures.line idle)

pub returns-in-Run-clause-asm : goal.returns-in-Run-clause-asm
returns-in-Run-clause-asm g c = asm_by c.in-Ok.ensures.command c.in-Run.is _ tt

pub returns-in-Run-clause-list : goal.returns-in-Run-clause-list
returns-in-Run-clause-list g c = list_by c.in-Ok.ensures.command c.in-Run.is _ tt

pub returns-in-Run-clause-generated : goal.returns-in-Run-clause-generated
returns-in-Run-clause-generated g c = gen_by c.in-Ok.ensures.command c.in-Run.is _ tt

pub returns-in-Run-clause-gen_exact : goal.returns-in-Run-clause-gen_exact
returns-in-Run-clause-gen_exact g c = gen_by c.in-Ok.ensures.command c.in-Run.is _ tt

-- ---- a text that is shown

pub returns-in-Help-clause-asm : goal.returns-in-Help-clause-asm
returns-in-Help-clause-asm g c = asm_by c.in-Ok.ensures.command c.in-Help.is _ tt

pub returns-in-Help-clause-list : goal.returns-in-Help-clause-list
returns-in-Help-clause-list g c = list_by c.in-Ok.ensures.command c.in-Help.is _ tt

pub returns-in-Help-clause-generated : goal.returns-in-Help-clause-generated
returns-in-Help-clause-generated g c = gen_by c.in-Ok.ensures.command c.in-Help.is _ tt

pub returns-in-Help-clause-gen_exact : goal.returns-in-Help-clause-gen_exact
returns-in-Help-clause-gen_exact g c = gen_by c.in-Ok.ensures.command c.in-Help.is _ tt

-- ---- the command asm

pub returns-in-Asm-clause-headline : goal.returns-in-Asm-clause-headline
returns-in-Asm-clause-headline g c = run_by c.in-Ok.ensures.command c.in-Asm.is _ tt

pub returns-in-Asm-clause-exact : goal.returns-in-Asm-clause-exact
returns-in-Asm-clause-exact g c = run_by c.in-Ok.ensures.command c.in-Asm.is _ tt

pub returns-in-Asm-clause-generated : goal.returns-in-Asm-clause-generated
returns-in-Asm-clause-generated g c = gen_by c.in-Ok.ensures.command c.in-Asm.is _ tt

pub returns-in-Asm-clause-gen_exact : goal.returns-in-Asm-clause-gen_exact
returns-in-Asm-clause-gen_exact g c = gen_by c.in-Ok.ensures.command c.in-Asm.is _ tt

pub returns-in-Asm-clause-help : goal.returns-in-Asm-clause-help
returns-in-Asm-clause-help g c = help_by c.in-Ok.ensures.command c.in-Asm.is _ tt

pub returns-in-Asm-clause-list : goal.returns-in-Asm-clause-list
returns-in-Asm-clause-list g c = list_by c.in-Ok.ensures.command c.in-Asm.is _ tt

pub returns-in-Asm-clause-asm : goal.returns-in-Asm-clause-asm
returns-in-Asm-clause-asm g c = let ensured = c.convert_file.ensures in asm_by c.in-Ok.ensures.command c.in-Asm.is _ (record { history = ensured.history; exact = ensured.exact; written = ensured.written })

pub returns-in-Asm-clause-idle : goal.returns-in-Asm-clause-idle
returns-in-Asm-clause-idle g c idle = c.convert_file.ensures.idle (λ of. idle (help_of_run c.convert_file.result.why of))

pub returns-in-Asm-clause-usage : goal.returns-in-Asm-clause-usage
returns-in-Asm-clause-usage g c = tool_usage c.convert_file.ensures.exact (λ bytes bad. bad) (spelled_by c.in-Ok.ensures.command c.in-Asm.is)

pub returns-in-Asm-clause-line : goal.returns-in-Asm-clause-line
returns-in-Asm-clause-line g c idle = let ensured = c.convert_file.ensures in tool_line ensured.exact (λ bytes bad. bad) (spelled_by c.in-Ok.ensures.command c.in-Asm.is) ensured.err_written ensured.line

-- ---- the command list

pub returns-in-List-clause-headline : goal.returns-in-List-clause-headline
returns-in-List-clause-headline g c = run_by c.in-Ok.ensures.command c.in-List.is _ tt

pub returns-in-List-clause-exact : goal.returns-in-List-clause-exact
returns-in-List-clause-exact g c = run_by c.in-Ok.ensures.command c.in-List.is _ tt

pub returns-in-List-clause-generated : goal.returns-in-List-clause-generated
returns-in-List-clause-generated g c = gen_by c.in-Ok.ensures.command c.in-List.is _ tt

pub returns-in-List-clause-gen_exact : goal.returns-in-List-clause-gen_exact
returns-in-List-clause-gen_exact g c = gen_by c.in-Ok.ensures.command c.in-List.is _ tt

pub returns-in-List-clause-help : goal.returns-in-List-clause-help
returns-in-List-clause-help g c = help_by c.in-Ok.ensures.command c.in-List.is _ tt

pub returns-in-List-clause-asm : goal.returns-in-List-clause-asm
returns-in-List-clause-asm g c = asm_by c.in-Ok.ensures.command c.in-List.is _ tt

pub returns-in-List-clause-list : goal.returns-in-List-clause-list
returns-in-List-clause-list g c = let ensured = c.convert_file-in-List.ensures in list_by c.in-Ok.ensures.command c.in-List.is _ (record { history = ensured.history; exact = ensured.exact; written = ensured.written })

pub returns-in-List-clause-idle : goal.returns-in-List-clause-idle
returns-in-List-clause-idle g c idle = c.convert_file-in-List.ensures.idle (λ of. idle (help_of_run c.convert_file-in-List.result.why of))

pub returns-in-List-clause-usage : goal.returns-in-List-clause-usage
returns-in-List-clause-usage g c = tool_usage c.convert_file-in-List.ensures.exact (λ bytes bad. bad) (spelled_by c.in-Ok.ensures.command c.in-List.is)

pub returns-in-List-clause-line : goal.returns-in-List-clause-line
returns-in-List-clause-line g c idle = let ensured = c.convert_file-in-List.ensures in tool_line ensured.exact (λ bytes bad. bad) (spelled_by c.in-Ok.ensures.command c.in-List.is) ensured.err_written ensured.line

-- ---- the generated program

pub returns-in-Gen-clause-headline : goal.returns-in-Gen-clause-headline
returns-in-Gen-clause-headline g c = run_by c.in-Ok.ensures.command c.in-Gen.is _ tt

pub returns-in-Gen-clause-exact : goal.returns-in-Gen-clause-exact
returns-in-Gen-clause-exact g c = run_by c.in-Ok.ensures.command c.in-Gen.is _ tt

pub returns-in-Gen-clause-asm : goal.returns-in-Gen-clause-asm
returns-in-Gen-clause-asm g c = asm_by c.in-Ok.ensures.command c.in-Gen.is _ tt

pub returns-in-Gen-clause-list : goal.returns-in-Gen-clause-list
returns-in-Gen-clause-list g c = list_by c.in-Ok.ensures.command c.in-Gen.is _ tt

pub returns-in-Gen-clause-help : goal.returns-in-Gen-clause-help
returns-in-Gen-clause-help g c = help_by c.in-Ok.ensures.command c.in-Gen.is _ tt

pub returns-in-Gen-clause-generated : goal.returns-in-Gen-clause-generated
returns-in-Gen-clause-generated g c = gen_by c.in-Ok.ensures.command c.in-Gen.is _ c.run_generated.ensures.headline

pub returns-in-Gen-clause-gen_exact : goal.returns-in-Gen-clause-gen_exact
returns-in-Gen-clause-gen_exact g c = gen_by c.in-Ok.ensures.command c.in-Gen.is _ c.run_generated.ensures.exact

pub returns-in-Gen-clause-usage : goal.returns-in-Gen-clause-usage
returns-in-Gen-clause-usage g c = spelled _ (commands.gen (gen_meaning c.in-Gen.load)) c.run_generated.result.why (spelled_by c.in-Ok.ensures.command c.in-Gen.is) (gen_not_usage c.in-Gen.load.count c.run_generated.result.why c.run_generated.ensures.exact)

pub returns-in-Gen-clause-store_faults : goal.returns-in-Gen-clause-store_faults
returns-in-Gen-clause-store_faults g c = gen_store c.in-Gen.load.count c.run_generated.result.why _ c.run_generated.ensures.exact

pub returns-in-Gen-clause-line : goal.returns-in-Gen-clause-line
returns-in-Gen-clause-line g c idle =
    line_alone g.E.Sink.contents g.E.Sink.faults c.args.err.now c.run_generated.new.err (command_of (texts c.args.args.now)) (commands.gen (gen_meaning c.in-Gen.load)) c.run_generated.result.why c.run_generated.result.err_written (spelled_by c.in-Ok.ensures.command c.in-Gen.is)
    (gen_not_usage c.in-Gen.load.count c.run_generated.result.why c.run_generated.ensures.exact) (c.run_generated.ensures.line idle)

-- ---- no command

pub returns-in-Err-clause-asm : goal.returns-in-Err-clause-asm
returns-in-Err-clause-asm g c = refused_asm _ _ _ _ _ c.refuse_arguments.result c.refuse_arguments.ensures.history _ _ c.in-Err.ensures.refusal c.refuse_arguments.ensures.why

pub returns-in-Err-clause-list : goal.returns-in-Err-clause-list
returns-in-Err-clause-list g c = refused_list _ _ _ _ _ c.refuse_arguments.result c.refuse_arguments.ensures.history _ _ c.in-Err.ensures.refusal c.refuse_arguments.ensures.why

pub returns-in-Err-clause-generated : goal.returns-in-Err-clause-generated
returns-in-Err-clause-generated g c = refused_gen _ _ c.refuse_arguments.result.why _ c.in-Err.ensures.refusal c.refuse_arguments.ensures.why (λ is k. memory_generated _ _ is)

pub returns-in-Err-clause-gen_exact : goal.returns-in-Err-clause-gen_exact
returns-in-Err-clause-gen_exact g c = refused_gen _ _ c.refuse_arguments.result.why _ c.in-Err.ensures.refusal c.refuse_arguments.ensures.why (λ is k. memory_gen k.count _ is)
