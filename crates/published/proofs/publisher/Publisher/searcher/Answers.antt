use Rattle.published.proofs.Steps.{admits, forks, merges}
use Rattle.published.proofs.publisher.Publisher.searcher.Goals as goal

pub reader-requires : goal.reader-requires
reader-requires g c = admits

pub tell-requires : goal.tell-requires
tell-requires g c = forks _ _

pub learn-requires-clause-rule : goal.learn-requires-clause-rule
learn-requires-clause-rule g c = merges _ _ _ _
