use Rattle.std.proofs.Common.{rules, ◌≡◌, refl, sym, ap, ◌∙◌, Err}
use Rattle.std.proofs.lemmas.Result.{err_from_is_err_and}
use Rattle.examiner.proofs.Naming.{listing-declares}
use Rattle.examiner.proofs.Examining.{spelled_at, reading-refused, reading-room, reading-analyzed, reading-cleared, called-as}
use Rattle.examiner.proofs.examine.Goals as goal

pub returns-in_err-n-clause-refused : goal.returns-in_err-n-clause-refused
returns-in_err-n-clause-refused g c x e =
    let a = c.args in
    let r = c.read_listing in
    let (z, k, l) = err_from_is_err_and c.from_residual.result c.from_residual.ensures.1 in
    let same : z ≡ x = cc in
    ((reading-refused a.listing.now a.work.now r.new.work r.ensures.value r.ensures.work_after (c.in_err-n.was ∙ ap Err (sym l ∙ same))).0, refl)

pub returns-in_err-n-clause-work_after : goal.returns-in_err-n-clause-work_after
returns-in_err-n-clause-work_after g c =
    let a = c.args in
    let r = c.read_listing in
    (reading-refused a.listing.now a.work.now r.new.work r.ensures.value r.ensures.work_after c.in_err-n.was).1

pub clear-requires : goal.clear-requires
clear-requires g c =
    let a = c.args in
    let r = c.read_listing in
    reading-room a.listing.now a.work.now r.new.work r.ensures.value r.ensures.work_after c.in_ok-n.was (r.ensures.spelled _ c.in_ok-n.was)

pub returns-clause-made : goal.returns-clause-made
returns-clause-made g c x e =
    let a = c.args in
    let r = c.read_listing in
    let h = r.ensures.spelled _ c.in_ok-n.was in
    let d = c.declarations-d in
    let same : c.f-made.result ≡ x = cc in
    record {
      rows = _;
      count = c.in_ok-n.n;
      declared = d.result;
      contract = h.contract;
      listing = refl;
      given = record { stands = spelled_at a.listing.now r.new.work _ h; noted = d.ensures.value; declared = d.ensures.declared_as };
      spells = h.spells;
      declares = listing-declares a.listing.now r.new.work _ h;
      analyzed = reading-analyzed a.listing.now a.work.now r.new.work r.ensures.value r.ensures.work_after c.in_ok-n.was h;
      made = called-as c.f-made.ensures same;
    }

pub returns-clause-work_after : goal.returns-clause-work_after
returns-clause-work_after g c =
    let a = c.args in
    let r = c.read_listing in
    search rules ∙ reading-cleared a.listing.now a.work.now r.new.work r.ensures.value r.ensures.work_after c.in_ok-n.was (r.ensures.spelled _ c.in_ok-n.was)
