use Rattle.std.proofs.Common.{◌≡◌, ◌+◌, ◌≤◌, sym, ap, arith, length, length-append}
use Rattle.std.specs.Prelude.{leb}
use Rattle.std.proofs.lemmas.Bool.{le-leb}
use Rattle.reporting.specs.Analyzed.{analysis_of}
use Rattle.reporting.specs.Bounds.{acceptance_bound}
use Rattle.reporting.specs.Text.{wait_lines, acceptance}
use Rattle.reporting.proofs.Chains.{acceptance-run}
use Rattle.reporting.proofs.Lengths.{acceptance-short}
use Rattle.reporting.proofs.WaitLines.{rows_short}
use Rattle.reporting.proofs.analyzed.Analyzed.has_room.Goals as goal
use Rattle.reporting.proofs.analyzed.Analyzed.has_room.Goals.{After-put_paths}

-- all but the waits is counted, and an acceptance is short
paths-counted : (c : After-put_paths) → (length (acceptance (analysis_of c.args.self.now)) ≡ c.put_paths.new.sink.length + length (wait_lines (analysis_of c.args.self.now).waits)) × (length (acceptance (analysis_of c.args.self.now)) ≤ acceptance_bound)
paths-counted c =
    let short = acceptance-short c.args.self.now c.put_paths.ensures.short in
    (omega (arith, short, simp length-append at (ap length (acceptance-run c.args.self.now)), ap (λ s. s.length) c.put_line.ensures, ap (λ s. s.length) c.put_paths.ensures.text), short)

pub overflow_add-counter : goal.overflow_add-counter
overflow_add-counter c = omega (arith, paths-counted (goal.at.overflow_add-counter c).After-put_paths)

pub returns-then-counter-output : goal.returns-then-counter-output
returns-then-counter-output c =
    sym (le-leb _ _ (omega (arith, paths-counted (goal.at.returns-then-counter-output c).After-put_paths, rows_short c.args.self.now.rows.table.now c.args.self.now.block)))

pub returns : goal.returns
returns c =
    ap (λ n. leb n (length c.args.output.now)) (omega (arith, paths-counted (goal.at.returns c).After-put_paths, ap (λ s. s.length) c.put_waits.ensures))
