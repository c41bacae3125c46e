use Rattle.pg_words.proofs.Parsing.{IsJob-from_reading, job_of-IsJob}
use Rattle.pg_words.proofs.laws.words_are_read_by_the_grammar.Goals as goal

pub returns : goal.returns
returns c = λ words job. (IsJob-from_reading words job, job_of-IsJob words job)
