use Rattle.extent_ops.proofs.Contents.{reads_content, writes_content, cuts_content}
use Rattle.extent_ops.proofs.laws.ranges_are_of_contents.Goals as goal

pub returns-clause-read : goal.returns-clause-read
returns-clause-read c = reads_content

pub returns-clause-write : goal.returns-clause-write
returns-clause-write c = writes_content

pub returns-clause-cut : goal.returns-clause-cut
returns-clause-cut c = cuts_content
