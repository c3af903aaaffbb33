-- One name that opens this crate's definitions and those below it to computation.
use Rattle.normal.proofs.Computes.{computes as normal}
use Rattle.search.specs.Run.{has, may_follow, end_in, free, links_allow, start_after, run_next, run}
use Rattle.search.specs.Live.{remaining, on_time, each_fits, all_fit, live}
use Rattle.search.specs.Tree.{opens, try_each, open_from, open_sequences, first_full, up_to_full, schedule, openings}
use Rattle.search.specs.Call.{schedule_number, slots_bytes, decided, searched, scheduled}

unfoldable pub computes : Unit {0}
unfolding normal has may_follow end_in free links_allow start_after run_next run remaining on_time each_fits all_fit live opens try_each open_from open_sequences first_full up_to_full schedule openings schedule_number slots_bytes decided searched scheduled
computes = tt
