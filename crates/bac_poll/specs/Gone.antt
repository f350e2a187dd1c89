-- 4. Dropped, or another life: what the evidence says where what is held lies behind the number that comes next.
pub use Rattle.bac_poll_steps.specs.Gone.{is_behind, is_earlier, is_outlived, gone_by, gone_of_none, gone_behind}
pub use Rattle.bac_poll_steps.specs.Gone.{gone_of, has_logged, retold, brings_gone, brings_both, brings_doubtful}
pub use Rattle.bac_poll_steps.specs.Gone.{by_gone, by_word, asks_restart, asks_revision, asks_word}
