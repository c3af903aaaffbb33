-- `normal::write::write_normal` meets its contract: the jobs are the output's first bytes, and the links those of the part that is lent from there on. Assumes nothing.
use mathlib.Core.Path.{sym, ap, ◌∙◌}
use native.Mathlib.Omega.{arith}
use mathlib.Core.List.{map}
use Rattle.laws.proofs.Adjoining.{flat_append}
use Rattle.records.specs.Record.{job_bytes}
use Rattle.records.specs.Table.{encode}
use Rattle.records.specs.Outcome.{overwrite}
use Rattle.records.specs.declared.JobRecord.TheVariants.{J, L}
use Rattle.records.proofs.Codec.{jobs as job-tables}
use Rattle.records.proofs.Tables.{length_encode}
use Rattle.records.proofs.Overwriting.{overwrite_part}
use Rattle.normal.specs.Chosen.{jobs_in, links_in}
use Rattle.normal.proofs.WriteLoops.{length_jobs_in}
use Rattle.normal.proofs.write.write_normal.Goals as goal

pub returns : goal.returns
unfolding encode
returns c =
    let a = c.args in
    let jobs = map J (jobs_in a.jobs a.windows) in
    let links = map L (links_in a.links) in
    overwrite_part a.out.now (encode job_bytes jobs) (encode job_bytes links) _ (length_encode job-tables jobs ∙ omega (arith, length_jobs_in a.jobs a.windows)) _ _ c.write_jobs.ensures c.write_links.ensures
    ∙ ap (λ bytes. overwrite bytes a.out.now) (sym (flat_append job_bytes jobs links))
