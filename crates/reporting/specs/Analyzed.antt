-- What an analyzed contract says.
use Rattle.rules.specs.Analyze.{Analysis}
use Rattle.reporting.specs.declared.analyzed.Analyzed.{Analyzed}
use Rattle.reporting.specs.Waits.{analysis_in}

-- the tables of all paths, the waits of the block
abbrev pub analysis_of : Analyzed → Analysis
analysis_of x = analysis_in x.rows.listing.now x.rows.table.now x.n x.declared x.paths.now
