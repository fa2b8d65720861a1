use Rattle.std.proofs.Common.{◌*◌}
use Rattle.output.proofs.Laws.{Left}
use Rattle.reporting.specs.Analyzed.{analysis_of}
use Rattle.reporting.specs.Bounds.{path_bound}
use Rattle.reporting.specs.Text.{path_lines}
use Rattle.reporting.proofs.Lengths.{Spent}
use Rattle.reporting.proofs.Loops.{paths_left}
use Rattle.reporting.proofs.analyzed.Analyzed.put_paths.Given as goal

abbrev pub invariant-loop-p : goal.invariant-loop-p
invariant-loop-p g l =
    (Left g.S.Sink.after g.S.Sink.fits l.fn.sink (path_lines 0 (analysis_of l.self).tables) l.sink (paths_left l.self l.p))
    × (Spent (path_lines 0 (analysis_of l.self).tables) (l.p * path_bound) (paths_left l.self l.p))
