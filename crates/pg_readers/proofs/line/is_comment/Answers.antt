use Rattle.std.proofs.Common.{sym}
use Rattle.pg_readers.proofs.TokenLemmas.{begins-length, is_comment-tokens}
use Rattle.pg_readers.proofs.line.is_comment.Goals as goal

pub bounds-bytes-0 : goal.bounds-bytes-0
bounds-bytes-0 c = begins-length c.args.bytes.now c.requires

pub returns : goal.returns
returns c = sym (is_comment-tokens c.args.bytes.now c.requires)
