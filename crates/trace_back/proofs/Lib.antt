-- Laws of what comes back.
mod BackLaws
