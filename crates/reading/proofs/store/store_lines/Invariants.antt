use Rattle.std.proofs.Common.{◌≡◌, length}
use Rattle.reading.proofs.Stored.{Storing}
use Rattle.reading.proofs.store.store_lines.Given as goal

-- the lines so far are stored
abbrev pub invariant-loop-count : goal.invariant-loop-count
invariant-loop-count l = record {
  listing : l.c.listing.now ≡ l.listing;
  long : length l.work ≡ length l.initial.work;
  storing : Storing l.listing l.initial.work l.work l.count l.c.at;
}
