use Rattle.std.proofs.Common.{◌≡◌, ◌≤◌, ◌++◌}
use Rattle.iv_term.specs.declared.term.Term.{size-Term}
use Rattle.iv_run.specs.Report.{prop_text}
use Rattle.iv_run.proofs.report.+push_prop.Given as goal

abbrev pub invariant-push_prop-loop-left : goal.invariant-push_prop-loop-left
invariant-push_prop-loop-left l = record {
  so_far : l.line.items ++ prop_text l.left ≡ l.fn.line.items ++ prop_text l.fn.prop;
  no_deeper : size-Term l.left ≤ size-Term l.fn.prop;
}
