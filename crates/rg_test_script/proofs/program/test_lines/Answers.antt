use Rattle.rg_test_script.proofs.program.test_lines.Goals as goal

pub returns-clause-done : goal.returns-clause-done
returns-clause-done g c = c.work_lines-worked.ensures.done c.args.form c.new-testing.ensures

pub returns-clause-ends : goal.returns-clause-ends
returns-clause-ends g c = c.work_lines-worked.ensures.ends

pub returns-clause-cut_off : goal.returns-clause-cut_off
returns-clause-cut_off g c = c.work_lines-worked.ensures.cut_off c.args.form c.new-testing.ensures
