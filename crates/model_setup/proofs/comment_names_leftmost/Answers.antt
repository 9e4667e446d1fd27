use Rattle.model_setup.proofs.CommentReads.{comment_names_leftmost}
use Rattle.model_setup.proofs.comment_names_leftmost.Goals as goal

pub returns : goal.returns
returns c = comment_names_leftmost
