-- One name that opens this crate's definitions and those below it to computation.
use Rattle.jobs.proofs.Computes.{computes as jobs}
use Rattle.normal.specs.Gaps.{link_square, widened, through_row, round, rounds, gaps, ring_in}
use Rattle.normal.specs.Windows.{earliest_of, last_start, latest_of, no_starts, windows}
use Rattle.normal.specs.Normal.{normal_job, pair_link, normal_links, normal_records, normal_by, normal_form}
use Rattle.normal.specs.Call.{starts_number, normal_bytes, normalise_number, normalise}

unfoldable pub computes : Unit {0}
unfolding jobs link_square widened through_row round rounds gaps ring_in earliest_of last_start latest_of no_starts windows normal_job pair_link normal_links normal_records normal_by normal_form starts_number normal_bytes normalise_number normalise
computes = tt
