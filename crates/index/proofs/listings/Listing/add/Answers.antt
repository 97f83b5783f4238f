use native.Mathlib.Omega.{arith}
use borrow.Author.Tests.{not-true, not-false}
use Rattle.index.proofs.ListingLaws.{added_none, added_full, added_more}
use Rattle.index.proofs.listings.Listing.add.Goals as goal

pub returns-then-not-self : goal.returns-then-not-self
returns-then-not-self c = added_none c.requires.indexed c.requires.top_bound (not-true _ c.if-not-self.true)

pub returns-then-top-known : goal.returns-then-top-known
returns-then-top-known c =
    added_more c.requires.indexed c.requires.top_bound c.remember_name.ensures
    (omega (arith, c.if-top-known.true, c.known.ensures.0)) (not-false _ c.if-not-self.false)

pub returns : goal.returns
returns c = added_full c.requires.indexed c.requires.top_bound c.remember_name.ensures
